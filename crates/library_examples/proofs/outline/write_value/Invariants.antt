-- `library_examples::outline::write_value` is safe and ends. The measure is what is left of the text.
use Rattle.std.proofs.Common.{◌-◌, ◌≤◌, length}
use Rattle.library_examples.proofs.outline.write_value.Given as goal

abbrev pub invariant-loop-c : goal.invariant-loop-c
invariant-loop-c l = l.i ≤ length l.s

abbrev pub decreases-loop-c : goal.decreases-loop-c
decreases-loop-c l = length l.s - l.i
