-- `interval::edge::place_number` meets its contract.
use Rattle.interval.proofs.edge.place_number.Goals as goal

pub returns-then-gap : goal.returns-then-gap
returns-then-gap c = rw c.if-gap.true

pub returns-else-gap : goal.returns-else-gap
returns-else-gap c = rw c.if-gap.false
