-- `printing::date::year_of` meets its contract.
use native.Mathlib.Omega.{arith}
use Rattle.printing.proofs.Dates.{next-year, this_year}
use Rattle.printing.proofs.date.year_of.Goals as goal

pub returns-then-days_before_year-days : goal.returns-then-days_before_year-days
returns-then-days_before_year-days c = next-year c.args.days c.requires (omega (arith, c.days_before_year.ensures, c.if-days_before_year-days.true))

pub returns : goal.returns
returns c = this_year c.args.days c.requires (omega (arith, c.days_before_year.ensures, c.if-days_before_year-days.false))
