-- `lent::in_order` meets its contract.
use Rattle.std.proofs.Common.{rules}
use Rattle.lent.proofs.Bounds.{order_is}
use Rattle.lent.proofs.in_order.Goals as goal

pub returns : goal.returns
returns c = rw c.is_less.ensures (order_is c.args.t c.args.u (search rules) (search rules) c.args.equal)
