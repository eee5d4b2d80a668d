-- `lent::is_less` meets its contract.
use Rattle.std.proofs.Common.{rules}
use Rattle.lent.proofs.Numbers.{signed-order}
use Rattle.lent.proofs.is_less.Goals as goal

pub returns : goal.returns
returns c = rw (c.wrapping_add_u64.ensures.value, c.wrapping_add_u64-2.ensures.value) (signed-order c.args.a c.args.b (search rules) (search rules))
