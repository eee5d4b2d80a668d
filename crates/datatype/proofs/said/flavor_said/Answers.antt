-- `datatype::said::flavor_said` meets its contract.
use mathlib.Core.Path.{sym, ◌∙◌}
use Rattle.datatype.proofs.said.flavor_said.Goals as goal

pub returns-then-has_text : goal.returns-then-has_text
returns-then-has_text c = λ o p. rw (sym (c.has_text.ensures o p) ∙ c.if-has_text.true)

pub returns-then-has_text-2 : goal.returns-then-has_text-2
returns-then-has_text-2 c = λ o p. rw (sym (c.has_text.ensures o p) ∙ c.if-has_text.false, sym (c.has_text-2.ensures o p) ∙ c.if-has_text-2.true)

pub returns : goal.returns
returns c = λ o p. rw (sym (c.has_text.ensures o p) ∙ c.if-has_text.false, sym (c.has_text-2.ensures o p) ∙ c.if-has_text-2.false)
