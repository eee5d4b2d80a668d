-- `listing::place::in_none` meets its contract.
use Rattle.rules.specs.Basics.{exists, every}
use Rattle.listing.proofs.place.in_none.Goals as goal

pub returns-in-Union : goal.returns-in-Union
unfolding exists
returns-in-Union c = rw c.in-Union.is

pub returns-in-Intersection : goal.returns-in-Intersection
unfolding every
returns-in-Intersection c = rw c.in-Intersection.is
