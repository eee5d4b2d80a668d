-- `form::name::has_word` meets its contract. The loop's invariant: an answer on what is left of the text is an answer on all of it.
use Prim.Native.Nat.{◌-◌, ◌≤◌}
use mathlib.Core.Bool.{Bool}
use lib.ListN.{length}
use Rattle.form.proofs.Wording.{HasWord}
use Rattle.form.proofs.name.has_word.Given as goal

abbrev pub invariant-loop-c : goal.invariant-loop-c
invariant-loop-c l = (l.i ≤ length l.s) × ((b : Bool) → HasWord l.s l.w l.i l.k b → HasWord l.s l.w l.from 0 b)

abbrev pub decreases-loop-c : goal.decreases-loop-c
decreases-loop-c l = length l.s - l.i
