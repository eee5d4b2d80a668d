-- `listing::place::in_single` meets its contract.
use Rattle.interval.specs.Meaning.{place_of}
use Rattle.listing.proofs.Placing.{within-written, within-unknown}
use Rattle.listing.proofs.place.in_single.Goals as goal

pub is_in-is-requires : goal.is_in-is-requires
is_in-is-requires c =
    let t = rw c.in-Some.is at c.interval_of-w.ensures.ticked in
    record { fact_1 = t.0; fact_2 = t.1; fact_3 = c.requires.fact_2 }

pub returns-in-Some-clause-tells : goal.returns-in-Some-clause-tells
returns-in-Some-clause-tells c = λ v after h.
    let (w, e) = c.interval_of-w.ensures.tells v after h in
    (within-written (place_of c.args.n c.args.gap) c.in-Some.is c.is_in-is.ensures w, e)

pub returns-in-None-clause-tells : goal.returns-in-None-clause-tells
returns-in-None-clause-tells c = λ v after h.
    let (w, e) = c.interval_of-w.ensures.tells v after h in
    (within-unknown (place_of c.args.n c.args.gap) c.in-None.is w, e)
