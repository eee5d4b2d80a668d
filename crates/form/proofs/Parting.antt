-- The parts of a text between the bytes b, one after another.
use Prim.Native.Nat.{ℕ, suc, ◌+◌, ◌-◌, ◌≤◌, ◌<◌}
use mathlib.Core.Path.{◌≡◌, ◌∙◌}
use mathlib.Core.Bool.{Bool, true, false}
use mathlib.Core.List.{List, [], ◌∷◌}
use native.Mathlib.Omega.{arith}
use borrow.Author.Tests.{eq-eqb, ne_eqb}
use lib.ListN.{length, get_or, take, drop, drop_of_length-le}
use Rattle.rules.specs.Basics.{exists, every, split}
use Rattle.rules.proofs.Tests.{every_true}
use Rattle.text.proofs.Reading.{here}
use Rattle.form.specs.Parted.{following, PartAt}

module _ (b : ℕ) (t : List ℕ) (i : ℕ) where
  -- a part ends at once, where b stands or the text ends
  at_once : i ≤ length t → split b (drop i t) ≡ [] ∷ following b (drop i t) → PartAt b t i i
  at_once h e = let n : i - i ≡ 0 = omega arith in record { low = omega arith; high = h; is = rw n e }

  pub part_here : i < length t → get_or t i 0 ≡ b → PartAt b t i i
  unfolding split following
  part_here h e = at_once (omega arith) (rw (here t i h, eq-eqb (get_or t i 0) b e))

  pub part_stop : i ≤ length t → length t ≤ i → PartAt b t i i
  unfolding split following
  part_stop h l = at_once h (rw (drop_of_length-le t l))

  -- a byte more
  pub part_more : (e : ℕ) → i < length t → (get_or t i 0 ≡ b → ⊥) → PartAt b t (i + 1) e → PartAt b t i e
  unfolding split
  part_more e h d p =
      let n : e - i ≡ suc (e - (i + 1)) = omega (arith, p.low) in
      record { low = omega (arith, p.low); high = p.high; is = rw (here t i h, ne_eqb (get_or t i 0) b d, p.is, n) }

-- every part passes a test, by the first and those after it
module _ (p : List ℕ → Bool) (b : ℕ) (t : List ℕ) (from e : ℕ) (h : PartAt b t from e) where
  pub every-not : p (take (e - from) (drop from t)) ≡ false → every p (split b (drop from t)) ≡ false
  unfolding every
  every-not f = rw (h.is, f)

  pub every_first : every p (split b (drop from t)) ≡ true → p (take (e - from) (drop from t)) ≡ true
  every_first f = (every_true p _ _ (rw h.is at f)).0

  pub every_last : p (take (e - from) (drop from t)) ≡ true → e ≡ length t → every p (split b (drop from t)) ≡ true
  unfolding every following
  every_last f l = rw (h.is, f, drop_of_length-le t {i = e} (omega arith))

  pub every_more : p (take (e - from) (drop from t)) ≡ true → e < length t → every p (split b (drop from t)) ≡ every p (split b (drop (e + 1) t))
  unfolding every following
  every_more f l = rw (h.is, f, here t e l)

-- and one of the parts
module _ (p : List ℕ → Bool) (b : ℕ) (t : List ℕ) (from e : ℕ) (h : PartAt b t from e) where
  pub exists_here : p (take (e - from) (drop from t)) ≡ true → exists p (split b (drop from t)) ≡ true
  unfolding exists
  exists_here f = rw (h.is, f)

  pub exists_last : p (take (e - from) (drop from t)) ≡ false → e ≡ length t → exists p (split b (drop from t)) ≡ false
  unfolding exists following
  exists_last f l = rw (h.is, f, drop_of_length-le t {i = e} (omega arith))

  pub exists_more : p (take (e - from) (drop from t)) ≡ false → e < length t → exists p (split b (drop from t)) ≡ exists p (split b (drop (e + 1) t))
  unfolding exists following
  exists_more f l = rw (h.is, f, here t e l)

-- the first part and the second
pub two-parts : (b : ℕ) (t : List ℕ) (i e : ℕ) → PartAt b t 0 i → i < length t → PartAt b t (i + 1) e
    → split b t ≡ take (i - 0) t ∷ take (e - (i + 1)) (drop (i + 1) t) ∷ following b (drop e t)
unfolding following
two-parts b t i e p l q = p.is ∙ rw (here t i l, q.is)

pub one_part : (b : ℕ) (t : List ℕ) (i : ℕ) → PartAt b t 0 i → i ≡ length t → split b t ≡ take (i - 0) t ∷ []
unfolding following
one_part b t i p l = p.is ∙ rw (drop_of_length-le t {i = i} (omega arith))
