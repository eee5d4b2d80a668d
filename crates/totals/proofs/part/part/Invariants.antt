-- `totals::part::part` meets its contract. The loop's invariant: what is taken of the first k rows, and what is to come.
use Rattle.std.proofs.Common.{◌-◌}
use Rattle.totals.proofs.Taking.{SoFar}
use Rattle.totals.proofs.part.part.Given as goal

abbrev pub invariant-loop-k : goal.invariant-loop-k
invariant-loop-k l = SoFar l.numbers l.desk l.held l.t l.k
