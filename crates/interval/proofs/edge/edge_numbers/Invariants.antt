-- `interval::edge::edge_numbers` meets its contract. The loop's invariant: the edges of the first k stretches are stored.
use Rattle.std.proofs.Common.{◌≡◌, take}
use Rattle.interval.specs.Edges.{edges, padded}
use Rattle.interval.proofs.edge.edge_numbers.Given as goal

abbrev pub invariant-loop-k : goal.invariant-loop-k
invariant-loop-k l = l.r ≡ padded (edges (take l.k l.v-items))
