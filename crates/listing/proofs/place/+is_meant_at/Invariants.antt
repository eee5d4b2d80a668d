-- `listing::place::is_meant_at` meets its contract. The remaining depth falls: members are read with less left than the element that they stand in.
use Prim.Native.Nat.{◌-◌}
use lib.ListN.{length}
use Rattle.interval.specs.Meaning.{place_of}
use Rattle.element.proofs.Walks.{Walked}
use Rattle.listing.proofs.Placing.{Placing, Begun}
use Rattle.listing.proofs.place.+is_meant_at.Given as goal

abbrev pub decreases-is_meant_at : goal.decreases-is_meant_at
decreases-is_meant_at l = l.depth

abbrev pub invariant-loop-i : goal.invariant-loop-i
invariant-loop-i l = Begun l.op l.any l.so_far × Walked l.s l.tag l.depth l.at (Placing l.shift.minutes l.op (place_of l.n l.gap) l.any l.so_far)

abbrev pub decreases-loop-i : goal.decreases-loop-i
decreases-loop-i l = length l.s - l.at
