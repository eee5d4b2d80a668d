-- `totals::damage::is_over_counted` meets its contract.
use Rattle.std.proofs.Common.{arith}
use Rattle.totals.proofs.Arithmetic.{over_one, none_over}
use Rattle.totals.proofs.damage.is_over_counted.Goals as goal

pub returns-then-t : goal.returns-then-t
returns-then-t c = over_one c.args.t.added c.args.t.null c.args.t.refused c.if-t.true

pub overflow_add-result : goal.overflow_add-result
overflow_add-result c = omega (arith, none_over c.args.t.added c.args.t.null c.args.t.refused c.if-t.false)

pub overflow_add-result-2 : goal.overflow_add-result-2
overflow_add-result-2 c = omega (arith, none_over c.args.t.added c.args.t.null c.args.t.refused c.if-t.false)
