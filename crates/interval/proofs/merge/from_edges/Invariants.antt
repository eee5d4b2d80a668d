-- `interval::merge::from_edges` meets its contract. The loop's invariant: the first k stretches have the first 2 k edges.
use Rattle.std.proofs.Common.{◌≡◌, suc, ◌*◌, ◌≤◌, length, take}
use Rattle.interval.specs.Meaning.{AllTicked}
use Rattle.interval.specs.Edges.{edges}
use Rattle.interval.proofs.merge.from_edges.Given as goal

abbrev pub invariant-loop-k : goal.invariant-loop-k
invariant-loop-k l = (2 * l.k ≤ suc l.n) × (length l.s.items ≡ 32) × AllTicked (take l.k l.s.items) × (edges (take l.k l.s.items) ≡ take (2 * l.k) l.e)
