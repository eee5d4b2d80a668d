-- `listing::set::evaluate` meets its contract. The remaining depth falls: members are read with less left than the element that they stand in.
use Prim.Native.Nat.{◌-◌}
use lib.ListN.{length}
use Rattle.element.proofs.Walks.{Walked}
use Rattle.listing.specs.Sets.{Formed}
use Rattle.listing.proofs.Evaluating.{Evaluating}
use Rattle.listing.proofs.set.+evaluate.Given as goal

abbrev pub decreases-evaluate : goal.decreases-evaluate
decreases-evaluate l = l.depth

abbrev pub invariant-loop-i : goal.invariant-loop-i
invariant-loop-i l = Formed l.so_far × Walked l.s l.tag l.depth l.so_far.end (Evaluating l.shift.minutes l.op l.so_far)

abbrev pub decreases-loop-i : goal.decreases-loop-i
decreases-loop-i l = length l.s - l.so_far.end
