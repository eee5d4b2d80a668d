-- `datatype::money::amount_at` meets its contract.
use native.Mathlib.Omega.{arith}
use Rattle.element.proofs.Asked.{absent, standing_to}
use Rattle.datatype.proofs.money.amount_at.Goals as goal

pub returns-then-place-eq0 : goal.returns-then-place-eq0
returns-then-place-eq0 c = record { small = tt; tells = λ o p. rw (absent p c.if-place-eq0.true) }

pub amount-requires : goal.amount-requires
amount-requires c = record { fact_1 = c.end-end.ensures.on_1 (omega (arith, c.requires, c.if-place-eq0.false)); fact_2 = c.end-end.ensures.on_2 }

pub returns : goal.returns
returns c = record {
  small = c.amount.ensures.small;
  tells = λ o p.
      let (v, is, reads) = standing_to p c.if-place-eq0.false c.end-end.ensures.tells in
      rw is (c.amount.ensures.tells v reads);
}
