-- Signed numbers at the edge: the agreed offset comes in, and the tick goes out.
use Prim.Native.Nat.{ℕ, suc, ◌+◌, ◌-◌, ◌^◌, ◌≤◌, ◌<◌}
use mathlib.Core.Path.{◌≡◌, refl, sym, ◌∙◌}
use mathlib.Core.Bool.{Bool, true, false, ◌&&◌, cond, and-true}
use native.Mathlib.Omega.{arith}
use borrow.Author.Tests.{leb-true, ltb-true, le-ltb}
use lib.Dec.{ltb, leb-suc-suc}
use lib.IntN.{ℤ, pos, negsuc, ◌+ℤ◌, ◌-ℤ◌}
use lib.Signed.{le_z}
use mir.Syntax.{w64}
use mir.Val.{SFits, to_z}
use mir.ValLaws.{to_z-of_z}
use Rattle.rules.specs.Timestamp.{before_start}
use Rattle.rules.specs.Check.{is_offset, shift_by}

pub in_range : (z : ℤ) → (le_z (negsuc 839) z && le_z z (pos 840)) ≡ is_offset z
in_range (pos n) = refl
in_range (negsuc n) = and-true _ ∙ sym (leb-suc-suc n 839)

-- an offset and 840 more, which is 1680 less the shift
pub shift_most : (z : ℤ) → is_offset z ≡ true → shift_by z ≤ 1680
shift_most (pos n) e = omega arith
shift_most (negsuc n) e = omega (arith, ltb-true n 840 e)

pub offset-sum : (z : ℤ) → is_offset z ≡ true → z +ℤ pos 840 ≡ pos (1680 - shift_by z)
offset-sum (pos n) e = let h : n + 840 ≡ 1680 - (840 - n) = omega (arith, leb-true n 840 e) in rw h refl
offset-sum (negsuc n) e =
    let h : 840 - suc n ≡ 1680 - (840 + suc n) = omega (arith, ltb-true n 840 e) in
    rw (le-ltb 840 (suc n) (ltb-true n 840 e), h) refl

-- a number that fits both ways
pub small-fits : (k : ℕ) → k < 2 ^ 60 → SFits w64 (pos k)
small-fits k h = record { sfits = omega arith }

pub small-read : (k : ℕ) → k < 2 ^ 60 → to_z w64 k ≡ pos k
small-read k h = to_z-of_z w64 (pos k) (small-fits k h)

-- a tick less the shift of the start
pub tick-fits : (k : ℕ) → k < 2 ^ 60 → SFits w64 (pos k -ℤ pos before_start)
tick-fits k h = go (ltb k before_start) refl
  where
    go : (b : Bool) → ltb k before_start ≡ b → SFits w64 (cond b (negsuc (before_start - suc k)) (pos (k - before_start)))
    go true e = record { sfits = omega arith }
    go false e = record { sfits = omega arith }
