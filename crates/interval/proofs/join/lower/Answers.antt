-- `interval::join::lower` meets its contract.
use Rattle.std.proofs.Common.{arith, le-leb}
use borrow.Author.Tests.{lt-leb}
use Rattle.interval.specs.Edges.{low_edge}
use Rattle.interval.proofs.join.lower.Goals as goal

pub returns-then-low_edge : goal.returns-then-low_edge
returns-then-low_edge c = rw (le-leb (low_edge c.args.a) (low_edge c.args.b) (omega (arith, c.low_edge.ensures, c.low_edge-2.ensures, c.if-low_edge.true)))

pub returns-else-low_edge : goal.returns-else-low_edge
returns-else-low_edge c = rw (lt-leb (low_edge c.args.a) (low_edge c.args.b) (omega (arith, c.low_edge.ensures, c.low_edge-2.ensures, c.if-low_edge.false)))
