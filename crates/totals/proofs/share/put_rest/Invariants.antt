-- `totals::share::put_rest` meets its contract. The loop's invariant: the first rows are put, and the others are to come.
use Rattle.std.proofs.Common.{◌-◌}
use Rattle.totals.proofs.Sharing.{RestSoFar}
use Rattle.totals.proofs.share.put_rest.Given as goal

abbrev pub invariant-loop-i : goal.invariant-loop-i
invariant-loop-i l = RestSoFar l.initial.numbers l.desk l.t l.j l.k l.numbers l.i l.at
