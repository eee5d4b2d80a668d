-- `totals::report::put_rows` meets its contract. The loop's invariant: the first k rows are written.
use Rattle.std.proofs.Common.{◌-◌}
use Rattle.totals.proofs.Putting.{SoFar}
use Rattle.totals.proofs.report.put_rows.Given as goal

abbrev pub invariant-loop-k : goal.invariant-loop-k
invariant-loop-k l = SoFar l.initial.out l.t l.out l.k
