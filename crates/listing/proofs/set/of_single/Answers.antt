-- `listing::set::of_single` meets its contract.
use Rattle.listing.proofs.Joining.{single_formed, single_says, unknown_says}
use Rattle.listing.proofs.set.of_single.Goals as goal

pub returns-in_default : goal.returns-in_default
returns-in_default c =
    let (f, k, n, e) = c.nothing.ensures in record {
      formed = f;
      within = rw e c.interval_of-w.ensures.within;
      tells = λ v after h. let (z, d) = c.interval_of-w.ensures.tells v after h in (unknown_says c.in_default.is k z, rw e d);
    }

pub single-set-requires : goal.single-set-requires
single-set-requires c = let t = rw c.in-Some.is at c.interval_of-w.ensures.ticked in record { fact_1 = t.0; fact_2 = t.1 }

pub returns : goal.returns
returns c = record {
  formed = single_formed c.in-Some.v c.single-set.ensures _;
  within = c.interval_of-w.ensures.within;
  tells = λ v after h. let (z, e) = c.interval_of-w.ensures.tells v after h in (single_says c.in-Some.v c.single-set.ensures _ c.in-Some.is z, e);
}
