-- `lent::read_number` meets its contract.
use Rattle.std.proofs.Common.{rules}
use Rattle.lent.proofs.Numbers.{number-read}
use Rattle.lent.proofs.read_number.Goals as goal

pub returns : goal.returns
returns c = let e = number-read c.args.list.now c.args.at c.requires in search (rules)
