-- `timestamp::calendar::days_before_month` meets its contract.
use Rattle.timestamp.proofs.Months.{days-before_month}
use borrow.Author.Tests.{le-leb, lt-leb}
use mathlib.Core.Path.{sym, ◌∙◌}
use native.Mathlib.Omega.{arith}
use Rattle.timestamp.proofs.calendar.days_before_month.Goals as goal

pub returns-then-month-le2 : goal.returns-then-month-le2
returns-then-month-le2 c = omega (arith, rw (le-leb c.args.month 2 c.if-month-le2.true) at (days-before_month c.args.year c.args.month c.requires.fact_1 c.requires.fact_2))

pub overflow_sub-result : goal.overflow_sub-result
overflow_sub-result c = omega (arith, rw (lt-leb c.args.month 2 (omega (arith, c.if-month-le2.false)), sym c.is_leap.ensures ∙ c.if-is_leap.true) at (days-before_month c.args.year c.args.month c.requires.fact_1 c.requires.fact_2))

pub overflow_sub-result-else-is_leap : goal.overflow_sub-result-else-is_leap
overflow_sub-result-else-is_leap c = omega (arith, rw (lt-leb c.args.month 2 (omega (arith, c.if-month-le2.false)), sym c.is_leap.ensures ∙ c.if-is_leap.false) at (days-before_month c.args.year c.args.month c.requires.fact_1 c.requires.fact_2))

pub returns-then-is_leap : goal.returns-then-is_leap
returns-then-is_leap c = omega (arith, rw (lt-leb c.args.month 2 (omega (arith, c.if-month-le2.false)), sym c.is_leap.ensures ∙ c.if-is_leap.true) at (days-before_month c.args.year c.args.month c.requires.fact_1 c.requires.fact_2))

pub returns-else-is_leap : goal.returns-else-is_leap
returns-else-is_leap c = omega (arith, rw (lt-leb c.args.month 2 (omega (arith, c.if-month-le2.false)), sym c.is_leap.ensures ∙ c.if-is_leap.false) at (days-before_month c.args.year c.args.month c.requires.fact_1 c.requires.fact_2))
