-- `listing::place::in_both` meets its contract.
use Rattle.listing.proofs.place.in_both.Goals as goal

pub returns-then-any : goal.returns-then-any
returns-then-any c = rw c.if-any.true c.apply.ensures

pub returns : goal.returns
returns c = rw c.if-any.false
