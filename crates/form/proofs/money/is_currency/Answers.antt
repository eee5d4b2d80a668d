-- `form::money::is_currency` meets its contract.
use Rattle.form.proofs.Amounting.{currency-other, currency-three}
use Rattle.form.proofs.money.is_currency.Goals as goal

pub returns-then-t-ne3 : goal.returns-then-t-ne3
returns-then-t-ne3 c = currency-other c.args.t.now c.if-t-ne3.true

pub returns : goal.returns
returns c = rw (c.is_capital.ensures, c.is_capital-2.ensures, c.is_capital-3.ensures) (currency-three c.args.t.now c.if-t-ne3.false)
