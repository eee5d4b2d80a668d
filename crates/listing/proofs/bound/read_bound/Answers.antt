-- `listing::bound::read_bound` meets its contract.
use Rattle.listing.proofs.bound.read_bound.Goals as goal

pub returns-in-Valued : goal.returns-in-Valued
returns-in-Valued c = rw (c.in-Valued.is, c.read_value.ensures)

pub returns-in-Infinite : goal.returns-in-Infinite
returns-in-Infinite c = rw c.in-Infinite.is
