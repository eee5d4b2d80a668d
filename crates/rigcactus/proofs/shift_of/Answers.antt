-- `rigcactus::shift_of` meets its contract.
use Prim.Native.Nat.{◌-◌, ◌<◌, ◌^◌}
use native.Mathlib.Omega.{arith}
use mir.Syntax.{w64}
use mir.ValLaws.{to_z-of_z}
use lib.IntN.{pos}
use Rattle.rules.specs.Check.{shift_by}
use Rattle.rigcactus.proofs.Signed.{shift_most, offset-sum, small-fits}
use Rattle.rigcactus.proofs.shift_of.Goals as goal

pub overflow_add-result : goal.overflow_add-result
overflow_add-result c = rw (to_z-of_z w64 c.args.offset c.ranges.offset, offset-sum c.args.offset c.requires) (small-fits _ (omega arith))

pub overflow_cast-result : goal.overflow_cast-result
overflow_cast-result c =
    let h : 1680 - shift_by c.args.offset < 2 ^ 60 = omega arith in
    rw (to_z-of_z w64 c.args.offset c.ranges.offset, offset-sum c.args.offset c.requires, to_z-of_z w64 (pos (1680 - shift_by c.args.offset)) (small-fits _ h))
    (tt, record { fits = omega arith })

pub overflow_sub-result : goal.overflow_sub-result
overflow_sub-result c =
    let h : 1680 - shift_by c.args.offset < 2 ^ 60 = omega arith in
    rw (to_z-of_z w64 c.args.offset c.ranges.offset, offset-sum c.args.offset c.requires, to_z-of_z w64 (pos (1680 - shift_by c.args.offset)) (small-fits _ h))
    (omega arith)

pub returns : goal.returns
returns c =
    let h : 1680 - shift_by c.args.offset < 2 ^ 60 = omega arith in
    rw (to_z-of_z w64 c.args.offset c.ranges.offset, offset-sum c.args.offset c.requires, to_z-of_z w64 (pos (1680 - shift_by c.args.offset)) (small-fits _ h))
    (omega (arith, shift_most c.args.offset c.requires))
