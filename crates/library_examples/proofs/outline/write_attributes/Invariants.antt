-- `library_examples::outline::write_attributes` is safe and ends. The measure is what is left of the text.
use Rattle.std.proofs.Common.{◌-◌, ◌≤◌, length}
use Rattle.library_examples.proofs.outline.write_attributes.Given as goal

abbrev pub invariant-loop-a : goal.invariant-loop-a
invariant-loop-a l = l.i ≤ length l.s

abbrev pub decreases-loop-a : goal.decreases-loop-a
decreases-loop-a l = length l.s - l.i
