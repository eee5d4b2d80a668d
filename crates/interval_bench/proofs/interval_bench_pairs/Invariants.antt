-- `interval_bench::interval_bench_pairs` meets its contract. The loop's invariant: `count` is that of the last outcome, if there was one.
use mathlib.Core.Path.{◌≡◌}
use Rattle.interval_bench.specs.Counts.{last_pair}
use Rattle.interval_bench.proofs.interval_bench_pairs.Given as goal

abbrev pub invariant-loop-k : goal.invariant-loop-k
invariant-loop-k l = l.count ≡ last_pair l.ticks l.k
