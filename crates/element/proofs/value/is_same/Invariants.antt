-- `element::value::is_same` meets its contract. The loop's invariant: an answer on what is left of both texts is an answer on both.
use Prim.Native.Nat.{◌-◌, ◌≤◌}
use mathlib.Core.Bool.{Bool}
use lib.ListN.{length}
use Rattle.element.proofs.Decoded.{Agree}
use Rattle.element.proofs.value.is_same.Given as goal

abbrev pub invariant-loop-c : goal.invariant-loop-c
invariant-loop-c l = (l.i ≤ length l.s) × (l.j ≤ length l.t) × ((b : Bool) → Agree l.s l.t l.i l.j b → Agree l.s l.t l.from l.onset b)

abbrev pub decreases-loop-c : goal.decreases-loop-c
decreases-loop-c l = length l.s - l.i
