-- `form::inside` meets its contract.
use Rattle.form.proofs.Quoted.{between_none}
use Rattle.form.proofs.inside.Goals as goal

pub returns-then-e-from : goal.returns-then-e-from
returns-then-e-from c = between_none c.args.s.now c.args.q c.args.e c.if-e-from.true
