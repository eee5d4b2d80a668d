-- `lent::is_bound` meets its contract.
use Rattle.lent.proofs.Bounds.{bound_is}
use Rattle.lent.proofs.is_bound.Goals as goal

pub returns : goal.returns
returns c = bound_is c.args.kind c.args.tick
