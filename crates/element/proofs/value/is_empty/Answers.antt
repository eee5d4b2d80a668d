-- `element::value::is_empty` meets its contract.
use mathlib.Core.Path.{◌∙◌}
use Rattle.element.proofs.Decoded.{none_told, chars-empty}
use Rattle.element.proofs.value.is_empty.Goals as goal

pub returns : goal.returns
returns c = λ v a q. none_told _ _ c.is_none.ensures ∙ chars-empty (c.next.ensures.tells v (c.start.ensures.tells v a q))
