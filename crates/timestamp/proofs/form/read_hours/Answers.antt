-- `timestamp::form::read_hours` meets its contract.
use Prim.Native.Nat.{◌+◌}
use native.Mathlib.Omega.{arith}
use lib.ListN.{drop}
use Rattle.timestamp.proofs.Reading.{hours-none, hours_alone, hours_minutes}
use Rattle.timestamp.proofs.form.read_hours.Goals as goal

pub returns-in_err-hours : goal.returns-in_err-hours
returns-in_err-hours c = rw c.from_residual.ensures (hours-none (drop c.args.at c.args.s.now) c.in_err-hours.ensures)

pub overflow_add-at : goal.overflow_add-at
overflow_add-at c = omega (arith, c.in_ok-hours.ensures.0)

pub read-requires-2 : goal.read-requires-2
read-requires-2 c = record { fact_1 = omega arith; fact_2 = c.in_ok-hours.ensures.0 }

pub overflow_add-result : goal.overflow_add-result
overflow_add-result c = omega (arith, c.in_ok-hours.ensures.0)

pub returns-in_default : goal.returns-in_default
returns-in_default c =
    let h = c.in_ok-hours.ensures in
    (hours_alone (drop c.args.at c.args.s.now) (drop (c.args.at + 2) c.args.s.now) h.2 c.in_default.ensures, h.1, omega arith, h.0)

pub overflow_add-result-2 : goal.overflow_add-result-2
overflow_add-result-2 c = omega (arith, c.in-Some.ensures.0)

pub overflow_add-result-3 : goal.overflow_add-result-3
overflow_add-result-3 c = omega (arith, c.in-Some.ensures.0)

pub returns : goal.returns
returns c =
    let h = c.in_ok-hours.ensures in
    let m = c.in-Some.ensures in
    (hours_minutes (drop c.args.at c.args.s.now) (drop (c.args.at + 2) c.args.s.now) h.2 m.2, h.1, m.1, m.0)
