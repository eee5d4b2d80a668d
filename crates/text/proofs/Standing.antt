-- Whether a text begins with another, by words: of n bytes each, the words are the same exactly if the bytes are.
use Prim.Native.Nat.{ℕ, zero, suc, ◌+◌, ◌-◌, ◌*◌, ◌≤◌, ◌<◌}
use mathlib.Core.Path.{◌≡◌, refl, sym, ◌∙◌}
use mathlib.Core.Bool.{Bool, true, false, ◌&&◌, and_assoc}
use mathlib.Core.List.{List, [], ◌∷◌}
use native.Mathlib.Omega.{arith}
use borrow.Author.Tests.{eqb-true, eqb-false, eq-eqb, ne_eqb}
use lib.Dec.{eqb}
use lib.ListN.{length, take, drop, get_or, length-drop}
use lib.Seq.{take_all, drop-drop, get_or-drop}
use Rattle.rules.specs.Basics.{begins}
use Rattle.rules.specs.LentLists.{unsigned}

abbrev pub Bytes : List ℕ → Type 0
Bytes l = (i : ℕ) → get_or l i 0 < 256

-- the lowest byte of a word, and the word of those above it
byte-and_word : (c d x y : ℕ) → c < 256 → d < 256 → eqb (c + 256 * x) (d + 256 * y) ≡ (eqb c d && eqb x y)
byte-and_word c d x y h k = go (eqb c d) refl (eqb x y) refl
  where
    go : (p : Bool) → eqb c d ≡ p → (q : Bool) → eqb x y ≡ q → eqb (c + 256 * x) (d + 256 * y) ≡ (p && q)
    go true e true f = eq-eqb (c + 256 * x) (d + 256 * y) (omega (arith, eqb-true c d e, eqb-true x y f))
    go true e false f = ne_eqb (c + 256 * x) (d + 256 * y) (λ z. eqb-false x y f (omega arith))
    go false e q f = ne_eqb (c + 256 * x) (d + 256 * y) (λ z. eqb-false c d e (omega arith))

begins_by_word : (n : ℕ) (a b : List ℕ) → n ≤ length a → n ≤ length b → Bytes a → Bytes b
    → begins a b ≡ (eqb (unsigned (take n a)) (unsigned (take n b)) && begins (drop n a) (drop n b))
unfolding begins unsigned
begins_by_word zero a b h k f g = refl
begins_by_word (suc n) [] b h k f g = absurd (omega arith)
begins_by_word (suc n) (c ∷ a) [] h k f g = absurd (omega arith)
begins_by_word (suc n) (c ∷ a) (d ∷ b) h k f g =
    rw (byte-and_word c d (unsigned (take n a)) (unsigned (take n b)) (f 0) (g 0), begins_by_word n a b (omega arith) (omega arith) (λ i. f (suc i)) (λ i. g (suc i)))
    (sym (and_assoc (eqb c d) _ _))

-- the words at a place of each
module _ (n : ℕ) (a b : List ℕ) (i j : ℕ) (h : i + n ≤ length a) (k : j + n ≤ length b) (f : Bytes a) (g : Bytes b) where
  from_here : begins (drop i a) (drop j b)
      ≡ (eqb (unsigned (take n (drop i a))) (unsigned (take n (drop j b))) && begins (drop (i + n) a) (drop (j + n) b))
  from_here =
      rw (← drop-drop n i a, ← drop-drop n j b)
      (begins_by_word n (drop i a) (drop j b) (rw length-drop (omega arith)) (rw length-drop (omega arith)) (λ m. rw get_or-drop (f (i + m))) (λ m. rw get_or-drop (g (j + m))))

  pub words_same : unsigned (take n (drop i a)) ≡ unsigned (take n (drop j b)) → begins (drop i a) (drop j b) ≡ begins (drop (i + n) a) (drop (j + n) b)
  words_same e = from_here ∙ rw (eq-eqb _ _ e) refl

  pub words_differ : (unsigned (take n (drop i a)) ≡ unsigned (take n (drop j b)) → ⊥) → begins (drop i a) (drop j b) ≡ false
  words_differ e = from_here ∙ rw (ne_eqb _ _ e) refl

-- what is left of a text, as a part of it
rest : (i : ℕ) (l : List ℕ) → take (length l - i) (drop i l) ≡ drop i l
rest i l = take_all (length l - i) (drop i l) (rw length-drop (omega arith))

pub rests : (a b : List ℕ) (i j : ℕ) → begins (take (length a - i) (drop i a)) (take (length b - j) (drop j b)) ≡ begins (drop i a) (drop j b)
rests a b i j = rw (rest i a, rest j b)
