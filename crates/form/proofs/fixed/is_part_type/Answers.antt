-- `form::fixed::is_part_type` meets its contract.
use mathlib.Core.Path.{sym, ◌∙◌}
use mathlib.Core.Bool.{or-false}
use Rattle.rules.specs.Basics.{exists, split, one_of}
use Rattle.form.proofs.fixed.is_part_type.Goals as goal

pub returns-then-is : goal.returns-then-is
unfolding one_of exists split
returns-then-is c = λ v a h. rw (sym (c.is.ensures v a h) ∙ c.if-is.true)

pub returns-then-is-2 : goal.returns-then-is-2
unfolding one_of exists split
returns-then-is-2 c = λ v a h.
    rw (sym (c.is.ensures v a h) ∙ c.if-is.false, sym (c.is-2.ensures v a h) ∙ c.if-is-2.true)

pub returns-then-is-3 : goal.returns-then-is-3
unfolding one_of exists split
returns-then-is-3 c = λ v a h.
    rw (sym (c.is.ensures v a h) ∙ c.if-is.false, sym (c.is-2.ensures v a h) ∙ c.if-is-2.false, sym (c.is-3.ensures v a h) ∙ c.if-is-3.true)

pub returns : goal.returns
unfolding one_of exists split
returns c = λ v a h.
    rw (
      sym (c.is.ensures v a h) ∙ c.if-is.false,
      sym (c.is-2.ensures v a h) ∙ c.if-is-2.false,
      sym (c.is-3.ensures v a h) ∙ c.if-is-3.false,
      or-false,
    ) (c.is-4.ensures v a h)
