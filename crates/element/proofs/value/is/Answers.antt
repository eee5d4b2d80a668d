use mathlib.Core.Path.{◌∙◌}
use Rattle.element.proofs.Decoded.{on-bounds, none_told, says-last, says-short, says_other, says_more}
use Rattle.element.proofs.value.is.Goals as goal

pub loop-b-init : goal.loop-b-init
loop-b-init c = (c.start-from.ensures.within, λ b h. h)

pub returns-in_default : goal.returns-in_default
returns-in_default c =
    λ v a q. c.loop-b.invariant.1 _ (says-short _ _ c.loop-b-test.true c.in_default.ensures.tells) v (c.start-from.ensures.tells v a q)

pub returns-then-c-b : goal.returns-then-c-b
returns-then-c-b c =
    λ v a q. c.loop-b.invariant.1 _ (says_other _ _ c.loop-b-test.true c.in-Some.ensures.tells c.if-c-b.true) v (c.start-from.ensures.tells v a q)

pub loop-b-preserved : goal.loop-b-preserved
loop-b-preserved c =
    ((on-bounds c.in-Some.ensures.on).1, λ b n. c.loop-b.invariant.1 b (says_more _ _ c.loop-b-test.true c.in-Some.ensures.tells c.if-c-b.false b n))

pub returns : goal.returns
returns c = λ v a q. none_told _ _ c.is_none.ensures ∙ c.loop-b.invariant.1 _ (says-last _ _ c.next-2.ensures.tells c.loop-b-test.false) v (c.start-from.ensures.tells v a q)
