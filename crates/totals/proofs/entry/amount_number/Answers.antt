-- `totals::entry::amount_number` meets its contract.
use Rattle.std.proofs.Common.{arith}
use Rattle.totals.proofs.Arithmetic.{above_zero, negative_read, positive_read}
use Rattle.totals.proofs.entry.amount_number.Goals as goal

pub overflow_sub-result : goal.overflow_sub-result
overflow_sub-result c = omega (arith, c.requires)

pub overflow_add-result : goal.overflow_add-result
overflow_add-result c = omega (arith, c.requires, above_zero c.args.negative c.args.value c.if-negative-value.true)

pub returns-then-negative-value : goal.returns-then-negative-value
returns-then-negative-value c = negative_read c.args.negative c.args.value c.requires c.if-negative-value.true

pub returns : goal.returns
returns c = positive_read c.args.negative c.args.value c.requires c.if-negative-value.false
