-- `markup::marks::read_by_slots` meets its contract. The loop's invariant: the names before are different, and their slots are taken.
use Prim.Native.Nat.{◌-◌}
use mathlib.Core.Path.{◌≡◌}
use lib.ListN.{length}
use Rattle.markup.proofs.Begun.{Begun}
use Rattle.markup.proofs.Slots.{HasSlot}
use Rattle.markup.proofs.marks.read_by_slots.Given as goal

abbrev pub invariant-loop-a : goal.invariant-loop-a
invariant-loop-a l = (length l.taken ≡ 64) × Begun (HasSlot l.taken) l.s l.at l.i

abbrev pub decreases-loop-a : goal.decreases-loop-a
decreases-loop-a l = length l.s - l.i
