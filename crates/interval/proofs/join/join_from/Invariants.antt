-- `interval::join::join_from` meets its contract. The loop's invariant: `whole` is the interval joined with the stretches before the k-th.
use Rattle.std.proofs.Common.{◌≡◌, drop}
use Rattle.interval.specs.Meaning.{Ticked, used}
use Rattle.interval.specs.Joining.{absorb}
use Rattle.interval.proofs.join.join_from.Given as goal

abbrev pub invariant-loop-k : goal.invariant-loop-k
invariant-loop-k l = Ticked l.whole.low × Ticked l.whole.high × (absorb l.initial.whole (drop l.p (used l.s)) ≡ absorb l.whole (drop l.k (used l.s)))
