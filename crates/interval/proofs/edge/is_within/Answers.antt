-- `interval::edge::is_within` meets its contract.
use Rattle.interval.proofs.edge.is_within.Goals as goal

pub returns : goal.returns
returns c = rw (c.low_edge.ensures, c.high_edge.ensures)
