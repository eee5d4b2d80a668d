-- `interval::join::higher` meets its contract.
use Rattle.std.proofs.Common.{arith, le-leb}
use borrow.Author.Tests.{lt-leb}
use Rattle.interval.specs.Edges.{high_edge}
use Rattle.interval.proofs.join.higher.Goals as goal

pub returns-then-high_edge : goal.returns-then-high_edge
returns-then-high_edge c = rw (le-leb (high_edge c.args.b) (high_edge c.args.a) (omega (arith, c.high_edge.ensures, c.high_edge-2.ensures, c.if-high_edge.true)))

pub returns-else-high_edge : goal.returns-else-high_edge
returns-else-high_edge c = rw (lt-leb (high_edge c.args.b) (high_edge c.args.a) (omega (arith, c.high_edge.ensures, c.high_edge-2.ensures, c.if-high_edge.false)))
