-- `markup::tag::read_by_search` meets its contract. The loop's invariant: an answer from here is an answer from the start.
use Rattle.std.specs.Prelude.{Option, ℕ}
use Prim.Native.Nat.{◌-◌, ◌≤◌}
use lib.ListN.{length}
use Rattle.markup.specs.Attributes.{ReadsDistinct}
use Rattle.markup.proofs.tag.read_by_search.Given as goal

abbrev pub invariant-loop-a : goal.invariant-loop-a
invariant-loop-a l = (l.i ≤ length l.s) × ((r : Option ℕ) → ReadsDistinct l.s l.i r → ReadsDistinct l.s l.at r)

abbrev pub decreases-loop-a : goal.decreases-loop-a
decreases-loop-a l = length l.s - l.i
