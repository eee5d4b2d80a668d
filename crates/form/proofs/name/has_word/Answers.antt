use native.Mathlib.Omega.{arith}
use Rattle.element.proofs.Decoded.{on-bounds}
use Rattle.form.proofs.Wording.{word_start, word_end, word_found, word_more}
use Rattle.form.proofs.name.has_word.Goals as goal

pub loop-c-init : goal.loop-c-init
loop-c-init c = (c.start-from.ensures.within, λ b h. h)

pub returns-then-c-k : goal.returns-then-c-k
returns-then-c-k c = λ v a h. word_start c.args.s.now c.args.w.now _ _ (c.loop-c.invariant.1 _ (word_found c.args.w.now c.loop-c.k c.in-Some.ensures.tells c.if-c-k.true)) v (c.start-from.ensures.tells v a h)

pub loop-c-smaller : goal.loop-c-smaller
loop-c-smaller c = let n = on-bounds c.in-Some.ensures.on in omega (arith, n.0, n.1)

pub loop-c-preserved : goal.loop-c-preserved
loop-c-preserved c =
    ((on-bounds c.in-Some.ensures.on).1, λ b h. c.loop-c.invariant.1 b (word_more c.args.w.now c.loop-c.k c.in-Some.ensures.tells c.if-c-k.false b (rw c.along-k.ensures at h)))

pub returns : goal.returns
returns c = λ v a h. word_start c.args.s.now c.args.w.now _ _ (c.loop-c.invariant.1 _ (word_end c.args.w.now c.loop-c.k c.in_default.ensures.tells)) v (c.start-from.ensures.tells v a h)
