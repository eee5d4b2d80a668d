-- `interval::join::count_before` meets its contract. The loop's invariant: the first k stretches end before every interval that begins where this one does.
use Rattle.std.proofs.Common.{◌≡◌, ◌++◌, take, drop}
use Rattle.interval.specs.declared.Interval.{Interval}
use Rattle.interval.specs.Edges.{low_edge}
use Rattle.interval.specs.Joining.{insert}
use Rattle.interval.proofs.join.count_before.Given as goal

abbrev pub invariant-loop-k : goal.invariant-loop-k
invariant-loop-k l = (v : Interval) → low_edge v.low ≡ l.from → insert v l.w-items ≡ take l.k l.w-items ++ insert v (drop l.k l.w-items)
