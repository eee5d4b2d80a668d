-- `listing::bound::bound_at` meets its contract.
use Rattle.listing.proofs.bound.bound_at.Goals as goal

pub returns-then-closed : goal.returns-then-closed
returns-then-closed c = rw c.if-closed.true

pub returns : goal.returns
returns c = rw c.if-closed.false
