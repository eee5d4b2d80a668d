-- `markup::read_content` and `markup::read_element` meet their contracts. The bytes left fall: an element is read with as many left as the content
-- that it stands in or fewer, and content with fewer left than the element that it stands in. The loop's invariant: an answer from here is an answer
-- from the start.
use lib.ListN.{length}
use Rattle.markup.specs.Elements.{ReadsContent}
use Prim.Native.Nat.{ℕ, ◌+◌, ◌-◌, ◌*◌, ◌≤◌}
use Rattle.markup.proofs.+read_content_read_element.Given as goal

abbrev pub decreases-read_element : goal.decreases-read_element
decreases-read_element l = 2 * (length l.s.now - l.at)

abbrev pub decreases-read_content : goal.decreases-read_content
decreases-read_content l = 2 * (length l.s.now - l.at) + 1

abbrev pub invariant-read_content-loop-end : goal.invariant-read_content-loop-end
invariant-read_content-loop-end l = (l.at ≤ l.i) × (l.i ≤ length l.s) × ((e : ℕ) → ReadsContent l.s l.i l.depth e → ReadsContent l.s l.at l.depth e)

abbrev pub decreases-read_content-loop-end : goal.decreases-read_content-loop-end
decreases-read_content-loop-end l = length l.s - l.i
