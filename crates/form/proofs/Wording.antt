-- Whether a word is among those of a text, byte by byte.
use Rattle.std.specs.Prelude.{Some, None}
use Prim.Native.Nat.{ℕ, ◌+◌, ◌≤◌, ◌<◌}
use mathlib.Core.Path.{◌≡◌, refl, sym, ◌∙◌, ap}
use mathlib.Core.Bool.{Bool, true, false, ◌&&◌, ◌||◌, cond, and-false, or-false}
use mathlib.Core.List.{List, [], ◌∷◌}
use native.Mathlib.Omega.{arith}
use borrow.Author.Tests.{eq-eqb, ne_eqb, eqb-true, eqb-false, le-leb, lt-leb, lt-ltb, le-ltb, ltb-true, ltb-false}
use lib.Dec.{leb, ltb, eqb}
use lib.ListN.{length, get_or, drop, drop_of_length-le}
use Rattle.rules.specs.Basics.{exists, same, onto, split, words}
use Rattle.rules.proofs.Tests.{both_true}
use Rattle.text.proofs.Reading.{here}
use Rattle.element.specs.Texts.{TextAt, Chars}
use Rattle.element.proofs.Decoded.{chars-none, chars-some}
use Rattle.form.specs.Words.{along_by}

-- a byte more, case by case
module _ (w : List ℕ) (k c : ℕ) where
  pub along_space : c ≡ 32 → 0 ≡ along_by w k c
  along_space e = rw (eq-eqb c 32 e)

  module _ (n : c ≡ 32 → ⊥) where
    pub along_past : length w ≤ k → length w + 1 ≡ along_by w k c
    along_past h = rw (ne_eqb c 32 n, le-ltb k (length w) h)

    module _ (h : k < length w) where
      pub along_other : (get_or w k 0 ≡ c → ⊥) → length w + 1 ≡ along_by w k c
      along_other d = rw (ne_eqb c 32 n, lt-ltb k (length w) h, ne_eqb (get_or w k 0) c d)

      pub along_more : get_or w k 0 ≡ c → k + 1 ≡ along_by w k c
      along_more e = rw (ne_eqb c 32 n, lt-ltb k (length w) h, eq-eqb (get_or w k 0) c e)

-- the rest of a word is the rest of w, where k bytes of both are gone; k is more than w has if they were not the same
abbrev ends : (w : List ℕ) (k : ℕ) → List ℕ → Bool
ends w k x = leb k (length w) && same (drop k w) x

-- w is among the words, of the first of which k bytes are gone
abbrev hits : (w : List ℕ) (k : ℕ) → List (List ℕ) → Bool
hits w k [] = false
hits w k (x ∷ xs) = ends w k x || exists (same w) xs

hits_start : (w : List ℕ) (l : List (List ℕ)) → hits w 0 l ≡ exists (same w) l
unfolding exists
hits_start w [] = refl
hits_start w (x ∷ xs) = rw (le-leb 0 (length w) (omega arith))

-- a text has a first word
some_word : (b : ℕ) (s : List ℕ) → (x : List ℕ) × (xs : List (List ℕ)) × (split b s ≡ x ∷ xs)
unfolding split
some_word b [] = ([], [], refl)
some_word b (c ∷ s) = go (eqb c b) (split b s)
  where
    go : (t : Bool) (l : List (List ℕ)) → (x : List ℕ) × (xs : List (List ℕ)) × (cond t ([] ∷ l) (onto c l) ≡ x ∷ xs)
    go true l = ([], l, refl)
    go false [] = (c ∷ [], [], refl)
    go false (w ∷ ws) = (c ∷ w, ws, refl)

module _ (w : List ℕ) (k : ℕ) where
  ends-none : ends w k [] ≡ eqb k (length w)
  unfolding same
  ends-none = go (eqb k (length w)) refl (ltb k (length w)) refl
    where
      go : (b : Bool) → eqb k (length w) ≡ b → (d : Bool) → ltb k (length w) ≡ d → ends w k [] ≡ b
      go true e d f =
          let z : k ≡ length w = eqb-true k (length w) e in
          rw (le-leb k (length w) (omega arith), drop_of_length-le w {i = k} (omega arith))
      go false e true f = rw (here w k (ltb-true k (length w) f)) (and-false (leb k (length w)))
      go false e false f =
          let z : k ≡ length w → ⊥ = eqb-false k (length w) e in
          let l : length w ≤ k = ltb-false k (length w) f in
          rw (lt-leb k (length w) (omega arith))

  ends_next : (c : ℕ) → (c ≡ 32 → ⊥) → (x : List ℕ) → ends w k (c ∷ x) ≡ ends w (along_by w k c) x
  unfolding same
  ends_next c n x = rw (ne_eqb c 32 n) (go (ltb k (length w)) refl (eqb (get_or w k 0) c) refl)
    where
      past : leb (length w + 1) (length w) ≡ false
      past = lt-leb (length w + 1) (length w) (omega arith)

      go : (d : Bool) → ltb k (length w) ≡ d → (b : Bool) → eqb (get_or w k 0) c ≡ b → ends w k (c ∷ x) ≡ ends w (cond (d && b) (k + 1) (length w + 1)) x
      go true f b e =
          let l : k < length w = ltb-true k (length w) f in
          rw (le-leb k (length w) (omega arith), here w k l, e) (kept b l)
        where
          kept : (b : Bool) → k < length w → (b && same (drop (k + 1) w) x) ≡ ends w (cond b (k + 1) (length w + 1)) x
          kept true l = rw (le-leb (k + 1) (length w) (omega arith))
          kept false l = rw past
      go false f b e =
          let l : length w ≤ k = ltb-false k (length w) f in
          rw (past, drop_of_length-le w l) (and-false (leb k (length w)))

  hits_end : eqb k (length w) ≡ hits w k (words [])
  unfolding split exists
  hits_end = rw ends-none (sym (or-false (eqb k (length w))))

  module _ (c : ℕ) (v : List ℕ) where
    hits_found : (eqb c 32 && eqb k (length w)) ≡ true → true ≡ hits w k (words (c ∷ v))
    unfolding split
    hits_found e = let (f, g) = both_true (eqb c 32) _ e in rw (f, ends-none, g)

    hits_more : (eqb c 32 && eqb k (length w)) ≡ false → hits w k (words (c ∷ v)) ≡ hits w (along_by w k c) (words v)
    unfolding split
    hits_more e = go (eqb c 32) refl e (some_word 32 v)
      where
        go : (b : Bool) → eqb c 32 ≡ b → (b && eqb k (length w)) ≡ false → ((x : List ℕ) × (xs : List (List ℕ)) × (split 32 v ≡ x ∷ xs))
            → hits w k (cond b ([] ∷ words v) (onto c (words v))) ≡ hits w (along_by w k c) (words v)
        go true f e u = rw (f, ends-none, e) (sym (hits_start w (words v)))
        go false f e (x, xs, z) = rw z (ap (λ b. b || exists (same w) xs) (ends_next c (eqb-false c 32 f) x))

-- b says whether w is among the words of the text whose characters stand from i on, of the first of which k bytes are gone
abbrev pub HasWord : List ℕ → List ℕ → (i k : ℕ) → Bool → Type 0
HasWord s w i k b = (v : List ℕ) → TextAt s i v → b ≡ hits w k (words v)

-- from the first word on
pub word_start : (s w : List ℕ) (i : ℕ) (b : Bool) → HasWord s w i 0 b → (v : List ℕ) → TextAt s i v → b ≡ exists (same w) (words v)
word_start s w i b h v x = h v x ∙ hits_start w (words v)

module _ {s : List ℕ} (w : List ℕ) {i : ℕ} (k : ℕ) where
  pub word_end : ((v : List ℕ) → TextAt s i v → Chars s v None) → HasWord s w i k (eqb k (length w))
  word_end h v x = rw (chars-none (h v x)) (hits_end w k)

  module _ {p : ℕ × ℕ} (h : (v : List ℕ) → TextAt s i v → Chars s v (Some p)) where
    pub word_found : (eqb p.0 32 && eqb k (length w)) ≡ true → HasWord s w i k true
    word_found f v x = let (u, y, t) = chars-some (h v x) in rw y (hits_found w k p.0 u f)

    pub word_more : (eqb p.0 32 && eqb k (length w)) ≡ false → (b : Bool) → HasWord s w p.1 (along_by w k p.0) b → HasWord s w i k b
    word_more f b n v x = let (u, y, t) = chars-some (h v x) in rw y (n u t ∙ sym (hits_more w k p.0 u f))
