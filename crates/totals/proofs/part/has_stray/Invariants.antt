-- `totals::part::has_stray` meets its contract. The loop's invariant: none of the first k rows is of neither desk.
use Rattle.std.proofs.Common.{◌-◌}
use Rattle.totals.proofs.Owners.{SoFar}
use Rattle.totals.proofs.part.has_stray.Given as goal

abbrev pub invariant-loop-k : goal.invariant-loop-k
invariant-loop-k l = SoFar l.numbers l.held l.k
