-- `markup::value::read_text` meets its contract. The loop's invariant: what is passed is characters, so that an answer from here is an answer
-- from the start.
use Prim.Native.Nat.{◌-◌}
use lib.ListN.{length}
use Rattle.markup.specs.Values.{TextOn}
use Rattle.markup.proofs.value.read_text.Given as goal

abbrev pub invariant-loop-end : goal.invariant-loop-end
invariant-loop-end l = TextOn l.s l.at l.i

abbrev pub decreases-loop-end : goal.decreases-loop-end
decreases-loop-end l = length l.s - l.i
