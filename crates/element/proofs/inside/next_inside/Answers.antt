use Rattle.element.proofs.Walks.{is-full, child-stands, end-stands, empty-ends}
use Rattle.element.proofs.Rows.{stands}
use Rattle.rules.proofs.Tests.{clash}
use mathlib.Core.Bool.{true, false, not}
use mathlib.Core.Path.{sym, ◌∙◌, ap}
use Rattle.element.proofs.inside.next_inside.Goals as goal

pub returns-then-not-full-depth : goal.returns-then-not-full-depth
returns-then-not-full-depth c = empty-ends _ _ _ (ap not c.if-not-full-depth.true) c.requires.fact_3

pub returns-then-is_child : goal.returns-then-is_child
returns-then-is_child c = child-stands (is-full _ c.args.depth (ap not c.if-not-full-depth.false)) (stands c.skip_space-i.ensures true (sym c.is_child.ensures.0 ∙ c.if-is_child.true) (λ z. c.is_child.ensures.1 c.if-is_child.true))

pub returns : goal.returns
returns c = end-stands (is-full _ c.args.depth (ap not c.if-not-full-depth.false)) (stands c.skip_space-i.ensures false (sym c.is_child.ensures.0 ∙ c.if-is_child.false) (λ z. clash (cc))) (c.past_end_tag.ensures.within, c.past_end_tag.ensures.tells)
