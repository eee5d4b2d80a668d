-- `interval_bench::interval_bench_joins` meets its contract. The loop's invariant: `count` is that of the last time, if there was one.
use mathlib.Core.Path.{◌≡◌}
use Rattle.interval_bench.specs.Counts.{last_join}
use Rattle.interval_bench.proofs.interval_bench_joins.Given as goal

abbrev pub invariant-loop : goal.invariant-loop
invariant-loop l = l.count ≡ last_join l.ticks l.counter
