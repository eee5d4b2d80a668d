use mathlib.Core.Path.{refl, sym, ◌∙◌, ap}
use native.Mathlib.Omega.{arith}
use lib.ListN.{drop_of_length-le}
use Rattle.rules.specs.Utf8.{is_utf8, follows}
use Rattle.text.proofs.Following.{char-high, no_char, after-char, after_ascii}
use Rattle.text.proofs.is_utf8.Goals as goal

pub loop-i-init : goal.loop-i-init
loop-i-init c = (omega arith, refl)

pub loop-i-smaller-then-s-i-lt128 : goal.loop-i-smaller-then-s-i-lt128
loop-i-smaller-then-s-i-lt128 c = omega (arith, c.after_ascii-i.ensures.low)

pub loop-i-preserved-then-s-i-lt128 : goal.loop-i-preserved-then-s-i-lt128
loop-i-preserved-then-s-i-lt128 c = (c.after_ascii-i.ensures.high, c.loop-i.invariant.1 ∙ after_ascii _ _ _ c.loop-i-test.true c.if-s-i-lt128.true c.after_ascii-i.ensures)

pub returns-then-n-eq0 : goal.returns-then-n-eq0
returns-then-n-eq0 c = sym (c.loop-i.invariant.1 ∙ no_char c.args.s.now c.loop-i.i c.char_length-n.result c.char_length-n.ensures c.loop-i-test.true c.if-n-eq0.true)

pub overflow_add-i : goal.overflow_add-i
overflow_add-i c = omega (arith, char-high c.args.s.now c.loop-i.i c.char_length-n.result c.char_length-n.ensures c.loop-i-test.true)

pub loop-i-smaller : goal.loop-i-smaller
loop-i-smaller c = omega (arith, c.if-n-eq0.false)

pub loop-i-preserved : goal.loop-i-preserved
loop-i-preserved c = (char-high c.args.s.now c.loop-i.i c.char_length-n.result c.char_length-n.ensures c.loop-i-test.true, c.loop-i.invariant.1 ∙ after-char c.args.s.now c.loop-i.i c.char_length-n.result c.char_length-n.ensures c.loop-i-test.true c.if-n-eq0.false)

pub returns : goal.returns
unfolding follows
returns c = sym (c.loop-i.invariant.1 ∙ ap is_utf8 (drop_of_length-le _ c.loop-i-test.false))
