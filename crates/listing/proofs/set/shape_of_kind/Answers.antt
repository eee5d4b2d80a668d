-- `listing::set::shape_of_kind` meets its contract.
use Rattle.listing.proofs.Shapes.{other-kind}
use Rattle.listing.proofs.set.shape_of_kind.Goals as goal

pub returns-in-QsuTs : goal.returns-in-QsuTs
returns-in-QsuTs c = rw c.in-QsuTs.is

pub returns-in-QsiTs : goal.returns-in-QsiTs
returns-in-QsiTs c = rw c.in-QsiTs.is

pub returns-in-QsdTs : goal.returns-in-QsdTs
returns-in-QsdTs c = rw c.in-QsdTs.is

pub returns-in_default : goal.returns-in_default
returns-in_default c = other-kind c.args.kind c.in_default.not-IvlTs c.in_default.not-QsuTs c.in_default.not-QsiTs c.in_default.not-QsdTs
