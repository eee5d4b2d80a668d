-- `form::is_amount` meets its contract.
use mathlib.Core.Path.{◌∙◌}
use Rattle.form.proofs.Faults.{amount_found}
use Rattle.form.proofs.is_amount.Goals as goal

pub returns : goal.returns
returns c = λ v h. c.is_some.ensures ∙ amount_found _ (c.amount.ensures.tells v h)
