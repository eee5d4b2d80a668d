-- Two texts compared byte for byte, from the front: whether they are the same, and whether one begins with the other.
use Prim.Native.Nat.{ℕ, suc, ◌+◌, ◌≤◌, ◌<◌}
use mathlib.Core.Path.{◌≡◌, refl, ap}
use mathlib.Core.Bool.{Bool, true, false, ◌&&◌}
use mathlib.Core.List.{List, [], ◌∷◌, ◌++◌}
use native.Mathlib.Omega.{arith}
use borrow.Author.Tests.{eqb-true, eq-eqb, ne_eqb}
use lib.Dec.{eqb}
use lib.ListN.{length, take, drop, get_or, drop_of_length-le}
use lib.Pointwise.{pointwise}
use Rattle.rules.specs.Basics.{same, begins}
use Rattle.rules.proofs.Tests.{clash, both_true}
use Rattle.text.proofs.Reading.{here}

-- the library's comparison of two lists, element by element
pub pointwise_same : (a b : List ℕ) → pointwise eqb a b ≡ same a b
unfolding same
pointwise_same [] [] = refl
pointwise_same [] (d ∷ b) = refl
pointwise_same (c ∷ a) [] = refl
pointwise_same (c ∷ a) (d ∷ b) = ap (λ z. eqb c d && z) (pointwise_same a b)

pub starts_begins : (a b : List ℕ) → pointwise eqb a (take (length a) b) ≡ begins a b
unfolding begins
starts_begins [] b = refl
starts_begins (c ∷ a) [] = refl
starts_begins (c ∷ a) (d ∷ b) = ap (λ z. eqb c d && z) (starts_begins a b)

pub same_lengths : (a b : List ℕ) → (length a ≡ length b → ⊥) → false ≡ same a b
unfolding same
same_lengths [] [] h = absurd (h refl)
same_lengths [] (d ∷ b) h = refl
same_lengths (c ∷ a) [] h = refl
same_lengths (c ∷ a) (d ∷ b) h = go (eqb c d) (same_lengths a b (λ e. h (ap suc e)))
  where
    go : (x : Bool) → false ≡ same a b → false ≡ (x && same a b)
    go true e = e
    go false e = refl

module _ (a b : List ℕ) (i : ℕ) (h : i < length a) (k : i < length b) where
  pub same_more : get_or a i 0 ≡ get_or b i 0 → same (drop i a) (drop i b) ≡ same (drop (i + 1) a) (drop (i + 1) b)
  unfolding same
  same_more e = rw (here a i h, here b i k, eq-eqb (get_or a i 0) (get_or b i 0) e)

  pub same_differs : (get_or a i 0 ≡ get_or b i 0 → ⊥) → same (drop i a) (drop i b) ≡ false
  unfolding same
  same_differs e = rw (here a i h, here b i k, ne_eqb (get_or a i 0) (get_or b i 0) e)

pub same_end : (a b : List ℕ) (i : ℕ) → length a ≤ i → length b ≤ i → same (drop i a) (drop i b) ≡ true
unfolding same
same_end a b i h k = rw (drop_of_length-le a h, drop_of_length-le b k)

pub begins_shorter : (a b : List ℕ) → length b < length a → false ≡ begins a b
unfolding begins
begins_shorter [] b h = absurd (omega arith)
begins_shorter (c ∷ a) [] h = refl
begins_shorter (c ∷ a) (d ∷ b) h = go (eqb c d) (begins_shorter a b (omega arith))
  where
    go : (x : Bool) → false ≡ begins a b → false ≡ (x && begins a b)
    go true e = e
    go false e = refl

module _ (a b : List ℕ) (i : ℕ) (h : i < length a) (k : i < length b) where
  pub begins_more : get_or a i 0 ≡ get_or b i 0 → begins (drop i a) (drop i b) ≡ begins (drop (i + 1) a) (drop (i + 1) b)
  unfolding begins
  begins_more e = rw (here a i h, here b i k, eq-eqb (get_or a i 0) (get_or b i 0) e)

  pub begins_differs : (get_or a i 0 ≡ get_or b i 0 → ⊥) → begins (drop i a) (drop i b) ≡ false
  unfolding begins
  begins_differs e = rw (here a i h, here b i k, ne_eqb (get_or a i 0) (get_or b i 0) e)

pub begins-end : (a b : List ℕ) (i : ℕ) → length a ≤ i → begins (drop i a) (drop i b) ≡ true
unfolding begins
begins-end a b i h = rw (drop_of_length-le a h)

-- a text that begins with a is a and what is left
pub begins-append : (a s : List ℕ) → begins a s ≡ true → s ≡ a ++ drop (length a) s
unfolding begins
begins-append [] s e = refl
begins-append (c ∷ a) [] e = clash (cc)
begins-append (c ∷ a) (d ∷ s) e = let (f, g) = both_true _ _ e in cc (eqb-true c d f, begins-append a s g)
