-- `form::timestamp_fault` meets its contract.
use Rattle.form.proofs.Faults.{moment_found, moment_refused}
use Rattle.form.proofs.timestamp_fault.Goals as goal

pub returns-in_default : goal.returns-in_default
returns-in_default c = λ v h. moment_found _ _ c.in_default.is (c.moment.ensures v h)

pub returns : goal.returns
returns c = λ v h. moment_refused _ _ c.in-Err.is (c.moment.ensures v h)
