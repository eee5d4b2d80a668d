-- `library_examples::outline::outline` and `outline_all` are safe and end: the levels that may still be open fall.
use Rattle.std.proofs.Common.{◌+◌, ◌-◌, ◌*◌, ◌≤◌, length}
use Rattle.library_examples.proofs.outline.+outline_outline_all.Given as goal

abbrev pub decreases-outline_all : goal.decreases-outline_all
decreases-outline_all l = 2 * l.depth + 1

abbrev pub decreases-outline : goal.decreases-outline
decreases-outline l = 2 * l.depth

abbrev pub invariant-outline_all-loop-at : goal.invariant-outline_all-loop-at
invariant-outline_all-loop-at l = l.i ≤ length l.s

abbrev pub decreases-outline_all-loop-at : goal.decreases-outline_all-loop-at
decreases-outline_all-loop-at l = length l.s - l.i
