-- `interval::edge::high_edge` meets its contract.
use Rattle.std.proofs.Common.{sym, ap, ◌∙◌, arith}
use Rattle.interval.specs.Meaning.{tick}
use Rattle.interval.specs.Edges.{high_edge}
use Rattle.interval.proofs.edge.high_edge.Goals as goal

pub place_number-requires : goal.place_number-requires
place_number-requires c = omega (arith, ap tick c.in-Open.is)

pub place_number-requires-in-Closed : goal.place_number-requires-in-Closed
place_number-requires-in-Closed c = omega (arith, ap tick c.in-Closed.is)

pub returns-in-Open : goal.returns-in-Open
returns-in-Open c = c.place_number.ensures ∙ sym (ap high_edge c.in-Open.is)

pub returns-in-Closed : goal.returns-in-Closed
returns-in-Closed c = c.place_number-in-Closed.ensures ∙ sym (ap high_edge c.in-Closed.is)
