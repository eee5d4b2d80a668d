-- `interval::merge::merge` meets its contract. The loop's invariant: the edges written are right for every place below a frontier, and
-- m is the next edge of either set. The measure is how many of their edges are left.
use Rattle.std.proofs.Common.{◌≡◌, ◌+◌, ◌-◌, min, get_or}
use Rattle.rules.specs.Sets.{apply}
use Rattle.interval.specs.Meaning.{op_of}
use Rattle.interval.specs.Edges.{top, rank}
use Rattle.interval.proofs.Sweep.{Merging}
use Rattle.interval.proofs.merge.merge.Given as goal

abbrev pub invariant-loop-m : goal.invariant-loop-m
invariant-loop-m l = Merging (apply (op_of l.op)) l.a l.b l.out l.i l.j l.n × (l.m ≡ min (get_or l.a l.i 0) (get_or l.b l.j 0))

abbrev pub decreases-loop-m : goal.decreases-loop-m
decreases-loop-m l = (rank l.a top + rank l.b top) - (l.i + l.j)
