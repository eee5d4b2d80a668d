-- `comparison::values::compare_identifiers` meets its contract.
use mathlib.Core.Path.{◌∙◌, ap}
use Rattle.rules.specs.Comparison.{answer}
use Rattle.comparison.proofs.Answers.{both_tests}
use Rattle.comparison.proofs.values.compare_identifiers.Goals as goal

pub returns : goal.returns
returns c = λ n v w g h.
    let roots = c.same_attribute-roots.ensures v.attrs w.attrs g h in
    let extensions = c.same_attribute.ensures v.attrs w.attrs g h in
    c.answer_if.ensures ∙ ap answer (both_tests roots extensions)
