-- `markup::tag::find_attribute` meets its contract. The loop's invariant: an answer from here is an answer from the start.
use Prim.Native.Nat.{◌-◌, ◌≤◌}
use lib.ListN.{length}
use Rattle.markup.specs.Attributes.{Answers}
use Rattle.std.specs.Prelude.{Option, ℕ}
use Rattle.markup.proofs.tag.find_attribute.Given as goal

abbrev pub invariant-loop-a : goal.invariant-loop-a
invariant-loop-a l = (l.i ≤ length l.s) × ((r : Option (ℕ × ℕ)) → Answers l.s l.name l.i r → Answers l.s l.name l.at r)

abbrev pub decreases-loop-a : goal.decreases-loop-a
decreases-loop-a l = length l.s - l.i
