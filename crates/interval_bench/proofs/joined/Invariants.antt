-- `interval_bench::joined` meets its contract. The loop's invariant: the intervals 0 to k are joined.
use Prim.Native.Nat.{◌+◌}
use Rattle.rules.specs.Sets.{meant}
use Rattle.interval.specs.Meaning.{Holds}
use Rattle.interval_bench.specs.Counts.{joined_to}
use Rattle.interval_bench.proofs.joined.Given as goal

abbrev pub invariant-loop-k : goal.invariant-loop-k
invariant-loop-k l = Holds (meant (joined_to l.ticks l.from l.k)) (l.k + 1) l.s
