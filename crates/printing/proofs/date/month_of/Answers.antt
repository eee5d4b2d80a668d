-- `printing::date::month_of` meets its contract.
use native.Mathlib.Omega.{arith}
use Rattle.printing.proofs.Dates.{next_month, this_month, last_month}
use Rattle.printing.proofs.date.month_of.Goals as goal

pub returns-then-days_before_month-day : goal.returns-then-days_before_month-day
returns-then-days_before_month-day c = next_month c.args.year c.args.day c.requires (omega (arith, c.if-month-lt12.true)) (omega (arith, c.days_before_month.ensures, c.if-days_before_month-day.true))

pub returns-else-days_before_month-day : goal.returns-else-days_before_month-day
returns-else-days_before_month-day c = this_month c.args.year c.args.day c.requires (omega (arith, c.if-month-lt12.true)) (omega (arith, c.days_before_month.ensures, c.if-days_before_month-day.false))

pub returns-else-month-lt12 : goal.returns-else-month-lt12
returns-else-month-lt12 c = last_month c.args.year c.args.day c.requires (omega (arith, c.if-month-lt12.false))
