-- `comparison::names::compare_parts` meets its contract.
use mathlib.Core.Path.{refl, ◌∙◌, ap}
use Rattle.rules.specs.Comparison.{answer}
use Rattle.comparison.proofs.Answers.{both_tests, either_test, chosen, left_over}
use Rattle.comparison.proofs.names.compare_parts.Goals as goal

pub returns-then-has : goal.returns-then-has
returns-then-has c = λ l m g h. chosen (either_test (c.has.ensures _ l g) (c.has-2.ensures _ m h)) _ c.if-has.true refl

pub returns : goal.returns
returns c = λ l m g h.
    let types = c.same_attribute-types.ensures l m g h in
    let values = c.same_attribute.ensures l m g h in
    left_over (either_test (c.has.ensures _ l g) (c.has-2.ensures _ m h)) _ c.if-has.false
    (c.answer_if.ensures ∙ ap answer (both_tests types values))
