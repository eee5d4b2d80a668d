-- `totals::share::clear` meets its contract.
use Rattle.std.proofs.Common.{refl}
use Rattle.totals.proofs.Shared.{nothing-sound}
use Rattle.totals.proofs.share.clear.Goals as goal

pub share-requires : goal.share-requires
share-requires c = record { fact_1 = c.requires.fact_1; fact_2 = c.requires.fact_2; fact_3 = c.requires.fact_3; fact_4 = (nothing-sound _ refl refl refl refl).0 }

pub returns : goal.returns
returns c = c.share.ensures
