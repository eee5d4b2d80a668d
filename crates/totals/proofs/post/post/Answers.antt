-- `totals::post::post` meets its contract.
use Rattle.std.proofs.Common.{refl, subst, ap, ◌∙◌}
use Rattle.std.specs.Prelude.{Ok}
use Rattle.totals.specs.Readings.{Readable}
use Rattle.totals.proofs.Posting.{refused_as, null_as}
use Rattle.totals.proofs.post.post.Goals as goal

pub add-requires : goal.add-requires
add-requires c = record { fact_1 = c.requires.fact_1; fact_2 = subst Readable (c.in-Ok-Some.is ∙ ap Ok (rw c.in-Ok-Some.is at c.in-Ok-Some.field-0-is)) c.requires.fact_2 }

pub returns-in-Ok-None : goal.returns-in-Ok-None
returns-in-Ok-None c = rw (c.in-Ok-None.is ∙ ap Ok (rw c.in-Ok-None.is at c.in-Ok-None.field-0-is)) (null_as c.args.t c.requires.fact_1 refl refl)

pub returns-in-Ok-Some : goal.returns-in-Ok-Some
returns-in-Ok-Some c = rw (c.in-Ok-Some.is ∙ ap Ok (rw c.in-Ok-Some.is at c.in-Ok-Some.field-0-is)) c.add.ensures

pub returns-in-Err : goal.returns-in-Err
returns-in-Err c = rw c.in-Err.is (refused_as c.args.t c.requires.fact_1 (subst Readable c.in-Err.is c.requires.fact_2) refl c.refuse.ensures.0 c.refuse.ensures.1)
