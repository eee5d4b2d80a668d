use mathlib.Core.Path.{◌∙◌}
use native.Mathlib.Omega.{arith}
use Rattle.element.proofs.Decoded.{on-bounds, none_told, agree_end, agree_short, agree_other, agree_more}
use Rattle.element.proofs.value.is_same.Goals as goal

pub start-onset-requires : goal.start-onset-requires
start-onset-requires c = c.requires.fact_2

pub loop-c-init : goal.loop-c-init
loop-c-init c = (c.start-from.ensures.within, c.start-onset.ensures.within, λ b h. h)

pub returns-in_default-next : goal.returns-in_default-next
returns-in_default-next c =
    λ v w a b p q. c.loop-c.invariant.2 _ (agree_short c.in-Some.ensures.tells c.in_default-next.ensures.tells) v w (c.start-from.ensures.tells v a p) (c.start-onset.ensures.tells w b q)

pub returns-then-c-d : goal.returns-then-c-d
returns-then-c-d c =
    λ v w a b p q. c.loop-c.invariant.2 _ (agree_other c.in-Some.ensures.tells c.in-Some-next.ensures.tells c.if-c-d.true) v w (c.start-from.ensures.tells v a p) (c.start-onset.ensures.tells w b q)

pub loop-c-smaller : goal.loop-c-smaller
loop-c-smaller c = let n = on-bounds c.in-Some.ensures.on in omega (arith, n.0, n.1)

pub loop-c-preserved : goal.loop-c-preserved
loop-c-preserved c = (
  (on-bounds c.in-Some.ensures.on).1,
  (on-bounds c.in-Some-next.ensures.on).1,
  λ b n. c.loop-c.invariant.2 b (agree_more c.in-Some.ensures.tells c.in-Some-next.ensures.tells c.if-c-d.false b n),
)

pub returns : goal.returns
returns c =
    λ v w a b p q. none_told _ _ c.is_none.ensures ∙ c.loop-c.invariant.2 _ (agree_end c.in_default.ensures.tells c.next-2.ensures.tells) v w (c.start-from.ensures.tells v a p) (c.start-onset.ensures.tells w b q)
