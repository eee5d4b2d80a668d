-- `form::fixed::is_flag` meets its contract.
use mathlib.Core.Path.{sym, ◌∙◌}
use mathlib.Core.Bool.{or-false}
use Rattle.rules.specs.Basics.{exists, split, one_of}
use Rattle.form.proofs.fixed.is_flag.Goals as goal

pub returns-then-is : goal.returns-then-is
unfolding one_of exists split
returns-then-is c = λ v a h. rw (sym (c.is.ensures v a h) ∙ c.if-is.true)

pub returns : goal.returns
unfolding one_of exists split
returns c = λ v a h. rw (sym (c.is.ensures v a h) ∙ c.if-is.false, or-false) (c.is-2.ensures v a h)
