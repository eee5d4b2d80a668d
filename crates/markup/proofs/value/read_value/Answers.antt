-- `markup::value::read_value` meets its contract.
use mathlib.Core.Path.{sym}
use Rattle.rules.specs.Markup.{value}
use Rattle.text.proofs.Reading.{answer, good, then, then_not, enough}
use Rattle.markup.proofs.value.read_value.Goals as goal

pub returns-in_err-from : goal.returns-in_err-from
unfolding value
returns-in_err-from c = answer (sym c.from_residual.ensures) (then_not _ _ c.in_err-from.ensures)

pub read_text-requires : goal.read_text-requires
read_text-requires c = (good c.in_ok-from.ensures).high

pub returns : goal.returns
unfolding value
returns c = then _ _ (good c.in_ok-from.ensures) (λ a q. enough _ c.read_text.ensures)
