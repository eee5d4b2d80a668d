-- `judge::carried::lacks` meets its contract.
use mathlib.Core.Path.{sym}
use mathlib.Core.Bool.{or-false}
use Rattle.rules.specs.Basics.{exists}
use Rattle.rules.specs.Types.{line_of}
use Rattle.judge.proofs.Required.{none-required}
use Rattle.judge.proofs.carried.lacks.Goals as goal

pub returns-in-DisplayName : goal.returns-in-DisplayName
unfolding line_of exists
returns-in-DisplayName c = λ s l t. rw (c.in-DisplayName.is, c.has.ensures s l t) (sym (or-false _))

pub returns-in_default : goal.returns-in_default
returns-in_default c = λ s l t. none-required l c.args.kind c.in_default.not-DisplayName
