-- `datatype::sides::read_sides` meets its contract.
use Prim.Native.Nat.{◌-◌}
use lib.ListN.{length}
use Rattle.element.proofs.Walks.{Walked}
use Rattle.datatype.proofs.Finding.{Sought}
use Rattle.datatype.proofs.sides.read_sides.Given as goal

abbrev pub invariant-loop-i : goal.invariant-loop-i
invariant-loop-i l = Walked l.s l.tag l.depth l.at (Sought l.shift.minutes l.low l.high)

abbrev pub decreases-loop-i : goal.decreases-loop-i
decreases-loop-i l = length l.s - l.at
