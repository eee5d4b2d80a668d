-- `listing::bound::read_value` meets its contract.
use mathlib.Core.Path.{sym, ◌∙◌}
use Rattle.listing.proofs.bound.read_value.Goals as goal

pub returns-then-is_pushed : goal.returns-then-is_pushed
returns-then-is_pushed c = rw (c.bound_at.ensures, sym c.is_pushed.ensures ∙ c.if-is_pushed.true)

pub returns : goal.returns
returns c = rw (c.bound_at-2.ensures, sym c.is_pushed.ensures ∙ c.if-is_pushed.false)
