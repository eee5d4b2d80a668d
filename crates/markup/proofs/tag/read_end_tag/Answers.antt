-- `markup::tag::read_end_tag` meets its contract.
use mathlib.Core.Path.{sym}
use native.Mathlib.Omega.{arith}
use Rattle.rules.specs.Markup.{end_tag}
use Rattle.text.proofs.Reading.{answer, good, fewer, not, then, then_not}
use Rattle.markup.proofs.tag.read_end_tag.Goals as goal

pub returns-in_err-name : goal.returns-in_err-name
unfolding end_tag
returns-in_err-name c = answer (sym c.from_residual.ensures) (not (then_not _ _ c.in_err-name.ensures))

pub read_literal-requires-2 : goal.read_literal-requires-2
read_literal-requires-2 c = (good c.in_ok-name.ensures).high

pub returns-in_err-name_end : goal.returns-in_err-name_end
unfolding end_tag
returns-in_err-name_end c =
    answer (sym c.from_residual-in_err-name_end.ensures) (fewer (omega arith) (then _ _ (good c.in_ok-name.ensures) (λ a q. then_not _ _ c.in_err-name_end.ensures)))

pub skip_space-requires : goal.skip_space-requires
skip_space-requires c = (good c.in_ok-name_end.ensures).high

pub returns : goal.returns
unfolding end_tag
returns c =
    fewer (omega arith) (then _ _ (good c.in_ok-name.ensures) (λ a q. then _ _ (good c.in_ok-name_end.ensures) (λ a q. then _ _ c.skip_space.ensures (λ a q. c.read_byte.ensures))))
