-- `markup::marks::is_before` meets its contract. The loop's invariant: an answer from here is an answer from the start.
use Prim.Native.Nat.{◌-◌, ◌≤◌}
use mathlib.Core.Bool.{Bool}
use lib.ListN.{length}
use Rattle.markup.proofs.Before.{Tells}
use Rattle.markup.proofs.marks.is_before.Given as goal

abbrev pub invariant-loop-i : goal.invariant-loop-i
invariant-loop-i l = (l.i ≤ length l.s) × ((r : Bool) → Tells l.s l.name l.i l.until r → Tells l.s l.name l.at l.until r)

abbrev pub decreases-loop-i : goal.decreases-loop-i
decreases-loop-i l = length l.s - l.i
