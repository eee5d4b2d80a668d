-- `timestamp::calendar::month_length` meets its contract.
use Rattle.timestamp.proofs.Months.{month_length_lem}
use borrow.Author.Tests.{eq-eqb, ne_eqb}
use mathlib.Core.Path.{sym, ◌∙◌}
use Rattle.timestamp.proofs.calendar.month_length.Goals as goal

pub returns-then-month-ne2 : goal.returns-then-month-ne2
returns-then-month-ne2 c = rw (ne_eqb c.args.month 2 c.if-month-ne2.true) at (month_length_lem c.args.year c.args.month c.requires.fact_1 c.requires.fact_2)

pub returns-then-is_leap : goal.returns-then-is_leap
returns-then-is_leap c = rw (eq-eqb c.args.month 2 c.if-month-ne2.false, sym c.is_leap.ensures ∙ c.if-is_leap.true) at (month_length_lem c.args.year c.args.month c.requires.fact_1 c.requires.fact_2)

pub returns-else-is_leap : goal.returns-else-is_leap
returns-else-is_leap c = rw (eq-eqb c.args.month 2 c.if-month-ne2.false, sym c.is_leap.ensures ∙ c.if-is_leap.false) at (month_length_lem c.args.year c.args.month c.requires.fact_1 c.requires.fact_2)
