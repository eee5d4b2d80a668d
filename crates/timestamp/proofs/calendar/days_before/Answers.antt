-- `timestamp::calendar::days_before` meets its contract.
use Rattle.timestamp.proofs.Ranges.{days-most}
use Rattle.timestamp.proofs.Months.{march_range, march_sum}
use native.Mathlib.Omega.{arith}
use Rattle.timestamp.proofs.calendar.days_before.Goals as goal

pub march_year-requires : goal.march_year-requires
march_year-requires c = c.requires.from_year

pub overflow_add-march_year : goal.overflow_add-march_year
overflow_add-march_year c = omega (arith, c.march_year.ensures, (march_range c.args.year c.args.month c.args.day c.requires).0)

pub days_before_year-requires : goal.days_before_year-requires
days_before_year-requires c = record { fact_1 = omega (arith, c.march_year.ensures); fact_2 = omega (arith, c.march_year.ensures, (march_range c.args.year c.args.month c.args.day c.requires).0) }

pub march_month-requires : goal.march_month-requires
march_month-requires c = c.requires.to_month

pub overflow_mul-result : goal.overflow_mul-result
overflow_mul-result c = omega (arith, c.march_month.ensures, (march_range c.args.year c.args.month c.args.day c.requires).2)

pub overflow_sub-result : goal.overflow_sub-result
overflow_sub-result c = omega (arith, c.march_month.ensures, (march_range c.args.year c.args.month c.args.day c.requires).1)

pub overflow_add-result : goal.overflow_add-result
overflow_add-result c = omega (arith, days-most c.args.year c.args.month c.args.day c.requires, march_sum c.args.year c.args.month c.args.day c.march_year.result c.march_month.result c.days_before_year.result c.requires c.march_year.ensures c.march_month.ensures c.days_before_year.ensures)

pub overflow_add-result-2 : goal.overflow_add-result-2
overflow_add-result-2 c = omega (arith, days-most c.args.year c.args.month c.args.day c.requires, march_sum c.args.year c.args.month c.args.day c.march_year.result c.march_month.result c.days_before_year.result c.requires c.march_year.ensures c.march_month.ensures c.days_before_year.ensures)

pub overflow_sub-result-2 : goal.overflow_sub-result-2
overflow_sub-result-2 c = omega (arith, days-most c.args.year c.args.month c.args.day c.requires, march_sum c.args.year c.args.month c.args.day c.march_year.result c.march_month.result c.days_before_year.result c.requires c.march_year.ensures c.march_month.ensures c.days_before_year.ensures)

pub returns : goal.returns
returns c = omega (arith, days-most c.args.year c.args.month c.args.day c.requires, march_sum c.args.year c.args.month c.args.day c.march_year.result c.march_month.result c.days_before_year.result c.requires c.march_year.ensures c.march_month.ensures c.days_before_year.ensures)
