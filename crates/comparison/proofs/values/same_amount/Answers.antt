-- `comparison::values::same_amount` meets its contract.
use mathlib.Core.Path.{ap}
use Rattle.rules.specs.Comparison.{same_amount}
use Rattle.form.specs.Amounts.{amount_of}
use Rattle.comparison.proofs.Options.{left_absent, both-present, no_amount}
use Rattle.comparison.proofs.Signs.{same_number}
use Rattle.comparison.proofs.values.same_amount.Goals as goal

pub returns-in_default : goal.returns-in_default
returns-in_default c = left_absent same_amount (amount_of c.args.b) (ap amount_of c.in_default.is) (no_amount c.args.b c.is_none.ensures)

pub returns : goal.returns
returns c =
    both-present same_amount (ap amount_of c.in-Some.is) (ap amount_of c.in-Some-b.is) (same_number c.in-Some.x.negative c.in-Some-b.y.negative c.in-Some.x.value c.in-Some-b.y.value)
