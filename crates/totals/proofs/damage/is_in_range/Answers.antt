-- `totals::damage::is_in_range` meets its contract.
use Rattle.std.proofs.Common.{rules}
use Rattle.totals.proofs.Arithmetic.{range-numbers}
use Rattle.totals.proofs.damage.is_in_range.Goals as goal

pub returns : goal.returns
returns c = range-numbers c.args.total (search rules)
