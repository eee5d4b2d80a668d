-- `printing::date::date_of` meets its contract.
use mathlib.Core.Path.{◌∙◌}
use native.Mathlib.Omega.{arith}
use Rattle.rules.proofs.Calendar.{days_by_division_lem}
use Rattle.printing.proofs.Dates.{in_year, date_found}
use Rattle.printing.proofs.date.date_of.Goals as goal

pub overflow_sub-passed : goal.overflow_sub-passed
overflow_sub-passed c = omega (arith, c.days_before_year.ensures, days_by_division_lem c.year_of-year.result, c.year_of-year.ensures.from)

pub month_of-month-requires : goal.month_of-month-requires
month_of-month-requires c = rw (c.days_before_year.ensures ∙ days_by_division_lem c.year_of-year.result) (in_year c.args.days c.year_of-year.result c.year_of-year.ensures)

pub returns : goal.returns
returns c =
    let days = c.args.days in
    let y = c.year_of-year in
    let e = c.days_before_year.ensures ∙ days_by_division_lem y.result in
    rw (c.days_before_month.ensures, e) (date_found days y.result y.ensures c.month_of-month.result (rw e at c.month_of-month.ensures))
