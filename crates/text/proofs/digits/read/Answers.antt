use Rattle.text.proofs.Numerals.{digits-short, decimal_more, passed-fits, other_byte, all-passed}
use Rattle.text.proofs.Following.{every_more}
use Rattle.rules.proofs.Tests.{is_from-true}
use Rattle.rules.specs.Basics.{every, is_digit, decimal_from}
use lib.ListN.{get_or}
use native.Mathlib.Omega.{arith}
use mathlib.Core.Path.{refl, sym, ◌∙◌}
use Prim.Native.Nat.{◌+◌}
use Rattle.text.proofs.digits.read.Goals as goal

pub overflow_sub-s : goal.overflow_sub-s
overflow_sub-s c = c.requires.fact_2

pub returns-then-s-at : goal.returns-then-s-at
returns-then-s-at c = digits-short c.args.s.now c.args.at c.args.n (omega (arith, c.requires.fact_2, c.if-s-at.true)) (omega (arith, c.if-s-at.true))

pub loop-k-init : goal.loop-k-init
unfolding every decimal_from
loop-k-init c = (omega arith, refl, refl)

pub overflow_add-b : goal.overflow_add-b
overflow_add-b c = omega (arith, c.requires.fact_2, c.if-s-at.false)

pub bounds-s-at : goal.bounds-s-at
bounds-s-at c = omega (arith, c.requires.fact_2, c.if-s-at.false)

pub returns-then-not-is_digit : goal.returns-then-not-is_digit
returns-then-not-is_digit c = other_byte c.args.s.now c.args.at c.args.n c.loop-k.k (omega (arith, c.requires.fact_2, c.if-s-at.false)) c.loop-k.invariant.0 c.loop-k.invariant.1 c.loop-k-test.true (sym c.is_digit.ensures ∙ c.if-not-is_digit.true)

pub overflow_mul-total : goal.overflow_mul-total
overflow_mul-total c = omega (arith, c.loop-k.invariant.2, passed-fits c.args.s.now c.args.at c.args.n c.loop-k.k (omega (arith, c.requires.fact_2, c.if-s-at.false)) c.loop-k.invariant.0 c.loop-k.invariant.1 c.loop-k-test.true c.requires.fact_1)

pub overflow_cast-total : goal.overflow_cast-total
overflow_cast-total c = omega (arith, is_from-true 48 57 (get_or c.args.s.now (c.args.at + c.loop-k.k) 0) (sym c.is_digit.ensures ∙ c.if-not-is_digit.false))

pub overflow_add-total : goal.overflow_add-total
overflow_add-total c = omega (arith, c.loop-k.invariant.2, is_from-true 48 57 (get_or c.args.s.now (c.args.at + c.loop-k.k) 0) (sym c.is_digit.ensures ∙ c.if-not-is_digit.false), passed-fits c.args.s.now c.args.at c.args.n c.loop-k.k (omega (arith, c.requires.fact_2, c.if-s-at.false)) c.loop-k.invariant.0 c.loop-k.invariant.1 c.loop-k-test.true c.requires.fact_1)

pub overflow_sub-total : goal.overflow_sub-total
overflow_sub-total c = omega (arith, is_from-true 48 57 (get_or c.args.s.now (c.args.at + c.loop-k.k) 0) (sym c.is_digit.ensures ∙ c.if-not-is_digit.false))

pub loop-k-preserved : goal.loop-k-preserved
loop-k-preserved c = (omega arith, sym (every_more is_digit c.args.s.now c.args.at c.loop-k.k (omega (arith, c.requires.fact_2, c.if-s-at.false))) ∙ rw (c.loop-k.invariant.1, sym c.is_digit.ensures ∙ c.if-not-is_digit.false) refl, omega (arith, c.loop-k.invariant.2, is_from-true 48 57 (get_or c.args.s.now (c.args.at + c.loop-k.k) 0) (sym c.is_digit.ensures ∙ c.if-not-is_digit.false), decimal_more c.args.s.now c.args.at c.loop-k.k (omega (arith, c.requires.fact_2, c.if-s-at.false))))

pub returns : goal.returns
returns c = rw c.loop-k.invariant.2 (all-passed c.args.s.now c.args.at c.args.n c.loop-k.k (omega (arith, c.requires.fact_2, c.if-s-at.false)) c.loop-k.invariant.0 c.loop-k.invariant.1 c.loop-k-test.false)
