use Rattle.judge.proofs.Rowing.{kept_low, kept_high}
use Rattle.judge.specs.Rows.{row_meant}
use mathlib.Core.Path.{refl}
use Rattle.judge.proofs.row.with_judged.Goals as goal

pub returns-then-stage-eq1 : goal.returns-then-stage-eq1
returns-then-stage-eq1 c = (kept_low (row_meant c.args.row) c.args.stage _ _ c.first-fault.ensures c.if-stage-eq1.true, refl)

pub returns-else-stage-eq1 : goal.returns-else-stage-eq1
returns-else-stage-eq1 c = (kept_high (row_meant c.args.row) c.args.stage _ _ c.first-fault.ensures c.if-stage-eq1.false, refl)
