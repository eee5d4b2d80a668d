-- `timestamp::unit_ticks` meets its contract.
use mathlib.Core.Path.{◌≡◌, refl}
use native.Mathlib.Omega.{arith}
use Rattle.timestamp.specs.Moments.{unit_ticks}
use Rattle.timestamp.proofs.Ranges.{year-most, month_most, digit_most}
use Rattle.timestamp.proofs.unit_ticks.Goals as goal

pub overflow_mul-result : goal.overflow_mul-result
overflow_mul-result c = omega (arith, c.year_length.ensures, year-most c.args.year)

pub overflow_mul-result-in-1 : goal.overflow_mul-result-in-1
overflow_mul-result-in-1 c = omega (arith, c.month_length.ensures, month_most c.args.year c.args.month)

pub returns-in-0 : goal.returns-in-0
unfolding unit_ticks
returns-in-0 c = (rw (c.in-0.is, c.year_length.ensures) refl, omega (arith, c.year_length.ensures, year-most c.args.year))

pub returns-in-1 : goal.returns-in-1
unfolding unit_ticks
returns-in-1 c = (rw (c.in-1.is, c.month_length.ensures) refl, omega (arith, c.month_length.ensures, month_most c.args.year c.args.month))

pub returns-in-2 : goal.returns-in-2
unfolding unit_ticks
returns-in-2 c = (rw c.in-2.is refl, omega arith)

pub returns-in-3 : goal.returns-in-3
unfolding unit_ticks
returns-in-3 c = (rw c.in-3.is refl, omega arith)

pub returns-in-4 : goal.returns-in-4
unfolding unit_ticks
returns-in-4 c = (rw c.in-4.is refl, omega arith)

pub returns-in_default : goal.returns-in_default
unfolding unit_ticks
returns-in_default c =
    let e : c.args.parts ≡ 5 = omega arith in
    (rw e c.digit_ticks.ensures, omega (arith, c.digit_ticks.ensures, digit_most c.args.digits))
