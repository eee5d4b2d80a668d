-- `datatype::said::time_at` meets its contract.
use mathlib.Core.Path.{refl, sym}
use native.Mathlib.Omega.{arith}
use Rattle.rules.specs.Refusal.{first_of}
use Rattle.element.proofs.Asked.{absent, standing_to}
use Rattle.datatype.proofs.said.time_at.Goals as goal

pub returns-then-place-eq0 : goal.returns-then-place-eq0
returns-then-place-eq0 c = λ o p. rw (absent p c.if-place-eq0.true) (refl, refl)

pub moment-read-requires : goal.moment-read-requires
moment-read-requires c = record { fact_1 = c.end-end.ensures.on_1 (omega (arith, c.requires, c.if-place-eq0.false)); fact_2 = c.end-end.ensures.on_2 }

pub returns-in_default : goal.returns-in_default
unfolding first_of
returns-in_default c = λ o p.
    let (w, is, x) = standing_to p c.if-place-eq0.false c.end-end.ensures.tells in
    rw (is, sym (c.moment-read.ensures w x), c.and.ensures, c.in_default.is) (refl, refl)

pub returns : goal.returns
unfolding first_of
returns c = λ o p.
    let (w, is, x) = standing_to p c.if-place-eq0.false c.end-end.ensures.tells in
    rw (is, sym (c.moment-read.ensures w x), c.in-Ok.is) (refl, refl)
