-- `datatype::columns::takes` meets its contract.
use mathlib.Core.Path.{◌∙◌}
use borrow.Author.Tests.{eq-eqb, ne_eqb}
use Rattle.element.proofs.Numbers.{same_names}
use Rattle.datatype.proofs.columns.takes.Goals as goal

pub returns-then-number-n : goal.returns-then-number-n
returns-then-number-n c = rw (same_names c.args.number c.args.n c.requires.fact_2 c.requires.fact_1 ∙ eq-eqb _ _ c.if-number-n.true)

pub returns : goal.returns
returns c = rw (same_names c.args.number c.args.n c.requires.fact_2 c.requires.fact_1 ∙ ne_eqb _ _ c.if-number-n.false)
