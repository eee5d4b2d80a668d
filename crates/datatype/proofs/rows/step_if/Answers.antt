-- `datatype::rows::step_if` meets its contract.
use mathlib.Core.Path.{sym, ◌∙◌}
use mathlib.Core.Bool.{and-false}
use Rattle.rules.specs.Basics.{same}
use Rattle.datatype.proofs.rows.step_if.Goals as goal

pub returns-then-is_same : goal.returns-then-is_same
returns-then-is_same c = rw (sym c.is_same.ensures ∙ c.if-is_same.true, c.if-low-stage.true)

pub returns-else-is_same : goal.returns-else-is_same
returns-else-is_same c = rw (sym c.is_same.ensures ∙ c.if-is_same.false)

pub returns-else-low-stage : goal.returns-else-low-stage
returns-else-low-stage c = rw (c.if-low-stage.false, and-false (same c.args.given.now c.args.name.now))
