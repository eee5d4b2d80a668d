-- `interval::merge::advance` meets its contract.
use Rattle.std.proofs.Common.{arith, eq-eqb, ne_eqb}
use Rattle.interval.proofs.merge.advance.Goals as goal

pub returns-then-l-i : goal.returns-then-l-i
returns-then-l-i c = rw (eq-eqb _ _ c.if-l-i.true) (omega arith)

pub returns-else-l-i : goal.returns-else-l-i
returns-else-l-i c = rw (ne_eqb _ _ c.if-l-i.false) (omega arith)
