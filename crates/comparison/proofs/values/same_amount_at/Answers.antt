-- `comparison::values::same_amount_at` meets its contract.
use Rattle.rules.specs.Comparison.{same_amount}
use Rattle.comparison.proofs.Options.{carried}
use Rattle.comparison.proofs.values.same_amount_at.Goals as goal

pub amount_at-requires : goal.amount_at-requires
amount_at-requires c = c.requires.fact_1.placed c.args.n

pub amount_at-requires-2 : goal.amount_at-requires-2
amount_at-requires-2 c = c.requires.fact_2.placed c.args.n

pub returns : goal.returns
returns c = λ l m g h.
    let a = c.amount_at.ensures.tells _ (g.placed c.args.n c.requires.fact_3) in
    let b = c.amount_at-2.ensures.tells _ (h.placed c.args.n c.requires.fact_3) in
    carried same_amount c.same_amount.ensures a b
