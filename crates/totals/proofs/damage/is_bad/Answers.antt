-- `totals::damage::is_bad` meets its contract.
use Rattle.totals.proofs.Damaged.{bad-before, bad-itself}
use Rattle.totals.proofs.damage.is_bad.Goals as goal

pub returns-then-is_currency-is_in_range : goal.returns-then-is_currency-is_in_range
returns-then-is_currency-is_in_range c = bad-before c.args.t.rows c.args.k c.is_currency.ensures c.is_in_range.ensures c.place_of.ensures c.if-is_currency-is_in_range.true

pub returns : goal.returns
returns c = bad-itself c.args.t.rows c.args.k c.is_currency.ensures c.is_in_range.ensures c.if-is_currency-is_in_range.false
