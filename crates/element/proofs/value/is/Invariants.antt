-- `element::value::is` meets its contract. The loop's invariant: an answer on what is left of both texts is an answer on both.
use Prim.Native.Nat.{◌≤◌}
use mathlib.Core.Bool.{Bool}
use lib.ListN.{length}
use Rattle.element.proofs.Decoded.{Says}
use Rattle.element.proofs.value.is.Given as goal

abbrev pub invariant-loop-b : goal.invariant-loop-b
invariant-loop-b l = (l.i ≤ length l.s) × ((b : Bool) → Says l.s l.t l.i l.b-index b → Says l.s l.t l.from 0 b)
