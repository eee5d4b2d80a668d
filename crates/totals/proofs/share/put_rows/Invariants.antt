-- `totals::share::put_rows` meets its contract. The loop's invariant: the first i rows are read, j are put, and the others are to come.
use Rattle.std.proofs.Common.{◌-◌}
use Rattle.totals.proofs.Sharing.{SoFar}
use Rattle.totals.proofs.share.put_rows.Given as goal

abbrev pub invariant-loop-i : goal.invariant-loop-i
invariant-loop-i l = SoFar l.initial.numbers l.desk l.held l.t l.numbers l.i l.j l.k
