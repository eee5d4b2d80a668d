-- `markup::value::skip_simple` meets its contract. The loop's invariant: what is passed is characters.
use Prim.Native.Nat.{◌-◌}
use lib.ListN.{length}
use Rattle.markup.specs.Values.{TextOn}
use Rattle.markup.proofs.value.skip_simple.Given as goal

abbrev pub invariant-loop-i : goal.invariant-loop-i
invariant-loop-i l = TextOn l.s l.at l.i

abbrev pub decreases-loop-i : goal.decreases-loop-i
decreases-loop-i l = length l.s - l.i
