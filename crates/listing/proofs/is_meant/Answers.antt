-- `listing::is_meant` meets its contract.
use Rattle.listing.proofs.is_meant.Goals as goal

pub returns : goal.returns
returns c = λ e d. (c.is_meant_at-meant.ensures.tells e _ d.tag).0
