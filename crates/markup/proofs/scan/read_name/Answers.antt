-- `markup::scan::read_name` meets its contract.
use mathlib.Core.Path.{sym, ◌∙◌}
use Rattle.rules.specs.Markup.{name}
use Rattle.text.specs.Reads.{upto}
use Rattle.text.proofs.Reading.{one_yes, one_no, one_end, good, then, then_not, last}
use Rattle.markup.proofs.scan.read_name.Goals as goal

pub returns-then-is_name_start : goal.returns-then-is_name_start
unfolding name
returns-then-is_name_start c =
    then _ _ (good (one_yes _ _ _ c.if-at-s.true (sym c.is_name_start.ensures ∙ c.if-is_name_start.true))) (λ a q. last _ _ (upto _ c.skip_name_bytes.ensures))

pub returns-else-is_name_start : goal.returns-else-is_name_start
unfolding name
returns-else-is_name_start c = then_not _ _ (one_no _ _ _ c.if-at-s.true (sym c.is_name_start.ensures ∙ c.if-is_name_start.false))

pub returns-else-at-s : goal.returns-else-at-s
unfolding name
returns-else-at-s c = then_not _ _ (one_end _ _ _ c.if-at-s.false)
