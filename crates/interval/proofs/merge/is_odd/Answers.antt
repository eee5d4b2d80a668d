-- `interval::merge::is_odd` meets its contract.
use Rattle.std.proofs.Common.{sym}
use Rattle.interval.proofs.Ranks.{odd-mod}
use Rattle.interval.proofs.merge.is_odd.Goals as goal

pub returns : goal.returns
returns c = sym (odd-mod c.args.n)
