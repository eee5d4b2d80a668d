use mathlib.Core.Path.{sym, ◌∙◌}
use Rattle.judge.proofs.own.breaks_null.Goals as goal

pub returns-then-has : goal.returns-then-has
returns-then-has c = λ s l kids t e. rw (← e, ← c.has_own.ensures s l t, sym (c.has.ensures s l t) ∙ c.if-has.true)

pub returns : goal.returns
returns c = λ s l kids t e. rw (sym (c.has.ensures s l t) ∙ c.if-has.false)
