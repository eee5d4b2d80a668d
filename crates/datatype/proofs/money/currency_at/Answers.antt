-- `datatype::money::currency_at` meets its contract.
use native.Mathlib.Omega.{arith}
use Rattle.element.proofs.Asked.{absent, standing_to}
use Rattle.datatype.proofs.money.currency_at.Goals as goal

pub returns-then-place-eq0 : goal.returns-then-place-eq0
returns-then-place-eq0 c = λ o p. rw (absent p c.if-place-eq0.true)

pub currency-requires : goal.currency-requires
currency-requires c = record { fact_1 = c.end-end.ensures.on_1 (omega (arith, c.requires, c.if-place-eq0.false)); fact_2 = c.end-end.ensures.on_2 }

pub returns : goal.returns
returns c = λ o p.
    let (v, is, reads) = standing_to p c.if-place-eq0.false c.end-end.ensures.tells in
    rw is (c.currency.ensures v reads)
