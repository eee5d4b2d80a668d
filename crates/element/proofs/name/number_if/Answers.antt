use mathlib.Core.Path.{sym, ◌∙◌}
use Rattle.element.proofs.name.number_if.Goals as goal

pub returns-then-is_same : goal.returns-then-is_same
returns-then-is_same c = rw (sym c.is_same.ensures ∙ c.if-is_same.true)

pub returns : goal.returns
returns c = rw (sym c.is_same.ensures ∙ c.if-is_same.false)
