-- `comparison::values::compare_codes` meets its contract.
use mathlib.Core.Path.{refl, ◌∙◌, ap}
use Rattle.rules.specs.Comparison.{answer}
use Rattle.comparison.proofs.Answers.{both_tests, chosen, left_over}
use Rattle.comparison.proofs.values.compare_codes.Goals as goal

pub returns-then-has : goal.returns-then-has
returns-then-has c = λ n v w g h.
    let codes = c.same_attribute-codes.ensures v.attrs w.attrs g h in
    let systems = c.same_attribute.ensures v.attrs w.attrs g h in
    chosen (both_tests (c.has.ensures _ v.attrs g) (c.has-2.ensures _ w.attrs h)) _ c.if-has.true
    (c.answer_if.ensures ∙ ap answer (both_tests codes systems))

pub returns : goal.returns
returns c = λ n v w g h. left_over (both_tests (c.has.ensures _ v.attrs g) (c.has-2.ensures _ w.attrs h)) _ c.if-has.false refl
