-- `markup::tag::read_attribute` meets its contract.
use mathlib.Core.Path.{sym}
use Rattle.rules.specs.Markup.{attribute}
use Rattle.text.proofs.Reading.{good, none_of, then, then_not}
use Rattle.markup.proofs.Attributes.{parts_not, parts_good}
use Rattle.markup.proofs.tag.read_attribute.Goals as goal

pub returns-in_err-name_end : goal.returns-in_err-name_end
unfolding attribute
returns-in_err-name_end c = parts_not c.from_residual.ensures (none_of _ (then_not _ _ c.in_err-name_end.ensures))

pub skip_space-equals-requires : goal.skip_space-equals-requires
skip_space-equals-requires c = (good c.in_ok-name_end.ensures).high

pub returns-in_err-equals_end : goal.returns-in_err-equals_end
unfolding attribute
returns-in_err-equals_end c =
    parts_not c.from_residual-in_err-equals_end.ensures
    (none_of _ (then _ _ (good c.in_ok-name_end.ensures) (λ a q. then _ _ c.skip_space-equals.ensures (λ a q. then_not _ _ c.in_err-equals_end.ensures))))

pub skip_space-value-requires : goal.skip_space-value-requires
skip_space-value-requires c = (good c.in_ok-equals_end.ensures).high

pub returns-in_err-end : goal.returns-in_err-end
unfolding attribute
returns-in_err-end c =
    parts_not c.from_residual-in_err-end.ensures
    (none_of _ (then _ _ (good c.in_ok-name_end.ensures) (λ a q. then _ _ c.skip_space-equals.ensures (λ a q. then _ _ (good c.in_ok-equals_end.ensures) (λ a q. then _ _ c.skip_space-value.ensures (λ a q.
    then_not _ _ c.in_err-end.ensures))))))

pub returns : goal.returns
returns c =
    parts_good _ _ _ _ _ _ _ (good c.in_ok-name_end.ensures) c.skip_space-equals.ensures (good c.in_ok-equals_end.ensures) c.skip_space-value.ensures (good c.in_ok-end.ensures)
