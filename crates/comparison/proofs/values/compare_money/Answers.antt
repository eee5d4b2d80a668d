-- `comparison::values::compare_money` meets its contract.
use mathlib.Core.Path.{◌∙◌, ap}
use Rattle.rules.specs.Comparison.{answer}
use Rattle.comparison.proofs.Answers.{both_tests}
use Rattle.comparison.proofs.values.compare_money.Goals as goal

pub returns : goal.returns
returns c = λ n v w g h.
    let amounts = c.same_amount_at-amounts.ensures v.attrs w.attrs g h in
    let currencies = c.same_attribute.ensures v.attrs w.attrs g h in
    c.answer_if.ensures ∙ ap answer (both_tests amounts currencies)
