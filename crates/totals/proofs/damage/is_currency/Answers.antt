-- `totals::damage::is_currency` meets its contract.
use Rattle.totals.proofs.Arithmetic.{no_currency, three_capitals}
use Rattle.totals.proofs.damage.is_currency.Goals as goal

pub returns-then-n-gt16777215 : goal.returns-then-n-gt16777215
returns-then-n-gt16777215 c = no_currency c.args.n c.if-n-gt16777215.true

pub returns : goal.returns
returns c = rw (c.is_capital.ensures, c.is_capital-2.ensures, c.is_capital-3.ensures) (three_capitals c.args.n c.if-n-gt16777215.false)
