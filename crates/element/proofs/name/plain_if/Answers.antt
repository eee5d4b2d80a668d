-- `element::name::plain_if` meets its contract.
use mathlib.Core.Path.{◌∙◌, ap}
use Rattle.element.proofs.name.plain_if.Goals as goal

pub returns : goal.returns
returns c = rw (← c.stands_at.ensures) c.then_some.ensures
