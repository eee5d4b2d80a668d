-- `markup::scan::read_byte` meets its contract.
use borrow.Author.Tests.{eq-eqb, ne_eqb}
use Rattle.text.proofs.Reading.{one_yes, one_no, one_end}
use Rattle.markup.proofs.scan.read_byte.Goals as goal

pub returns-then-s-at : goal.returns-then-s-at
returns-then-s-at c = one_yes _ _ _ c.if-at-s.true (eq-eqb _ _ c.if-s-at.true)

pub returns-else-s-at : goal.returns-else-s-at
returns-else-s-at c = one_no _ _ _ c.if-at-s.true (ne_eqb _ _ c.if-s-at.false)

pub returns-else-at-s : goal.returns-else-at-s
returns-else-at-s c = one_end _ _ _ c.if-at-s.false
