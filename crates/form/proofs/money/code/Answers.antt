-- `form::money::code` meets its contract.
use mathlib.Core.Path.{sym, ◌∙◌}
use native.Mathlib.Omega.{arith}
use Rattle.form.proofs.Amounting.{currency-long, code_three}
use Rattle.form.proofs.money.code.Goals as goal

pub returns-then-not-is_currency : goal.returns-then-not-is_currency
returns-then-not-is_currency c = rw (sym c.is_currency.ensures ∙ c.if-not-is_currency.true)

pub bounds-t-0 : goal.bounds-t-0
bounds-t-0 c = omega (arith, currency-long c.args.t.now (sym c.is_currency.ensures ∙ c.if-not-is_currency.false))

pub overflow_cast-result : goal.overflow_cast-result
overflow_cast-result c = omega (arith, c.shared_slice_known-1.given 0)

pub bounds-t-1 : goal.bounds-t-1
bounds-t-1 c = omega (arith, currency-long c.args.t.now (sym c.is_currency.ensures ∙ c.if-not-is_currency.false))

pub overflow_cast-result-2 : goal.overflow_cast-result-2
overflow_cast-result-2 c = omega (arith, c.shared_slice_known-1.given 1)

pub overflow_mul-result : goal.overflow_mul-result
overflow_mul-result c = omega (arith, c.shared_slice_known-1.given 1)

pub overflow_add-result : goal.overflow_add-result
overflow_add-result c = omega (arith, c.shared_slice_known-1.given 0, c.shared_slice_known-1.given 1)

pub bounds-t-2 : goal.bounds-t-2
bounds-t-2 c = omega (arith, currency-long c.args.t.now (sym c.is_currency.ensures ∙ c.if-not-is_currency.false))

pub overflow_cast-result-3 : goal.overflow_cast-result-3
overflow_cast-result-3 c = omega (arith, c.shared_slice_known-1.given 2)

pub overflow_mul-result-2 : goal.overflow_mul-result-2
overflow_mul-result-2 c = omega (arith, c.shared_slice_known-1.given 2)

pub overflow_add-result-2 : goal.overflow_add-result-2
overflow_add-result-2 c = omega (arith, c.shared_slice_known-1.given 0, c.shared_slice_known-1.given 1, c.shared_slice_known-1.given 2)

pub returns : goal.returns
returns c =
    let h = sym c.is_currency.ensures ∙ c.if-not-is_currency.false in
    rw h (code_three c.args.t.now (currency-long c.args.t.now h))
