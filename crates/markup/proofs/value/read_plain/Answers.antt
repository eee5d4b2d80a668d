-- `markup::value::read_plain` meets its contract.
use mathlib.Core.Path.{sym, ◌∙◌}
use Rattle.text.proofs.Reading.{one_no, one_end}
use Rattle.markup.proofs.Characters.{char-one, char_no}
use Rattle.markup.proofs.value.read_plain.Goals as goal

pub returns-then-is_plain : goal.returns-then-is_plain
returns-then-is_plain c = char-one _ _ _ c.if-at-s.true (sym c.is_plain.ensures ∙ c.if-is_plain.true)

pub returns-else-is_plain : goal.returns-else-is_plain
returns-else-is_plain c = char_no (one_no _ _ _ c.if-at-s.true (sym c.is_plain.ensures ∙ c.if-is_plain.false))

pub returns-else-at-s : goal.returns-else-at-s
returns-else-at-s c = char_no (one_end _ _ _ c.if-at-s.false)
