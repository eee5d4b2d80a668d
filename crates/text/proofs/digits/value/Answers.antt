use mathlib.Core.Path.{◌≡◌, refl, sym, ◌∙◌, ap}
use native.Mathlib.Omega.{arith}
use lib.ListN.{take, drop}
use Rattle.rules.specs.Basics.{decimal_from, decimal}
use Rattle.text.proofs.Numerals.{digit_at, decimal-fits, decimal_more}
use Rattle.text.proofs.digits.value.Goals as goal

pub loop-k-init : goal.loop-k-init
unfolding decimal_from
loop-k-init c = (omega arith, refl)

pub overflow_mul-total : goal.overflow_mul-total
overflow_mul-total c = omega (arith, c.loop-k.invariant.1, decimal-fits c.args.s.now c.args.at c.args.n c.requires.fact_2 c.requires.fact_3 c.loop-k.k c.loop-k-test.true c.requires.fact_1)

pub overflow_add-total : goal.overflow_add-total
overflow_add-total c = omega (arith, c.requires.fact_2)

pub bounds-s-at : goal.bounds-s-at
bounds-s-at c = omega (arith, c.requires.fact_2)

pub overflow_sub-total : goal.overflow_sub-total
overflow_sub-total c = omega (arith, digit_at c.args.s.now c.args.at c.args.n c.requires.fact_2 c.requires.fact_3 c.loop-k.k c.loop-k-test.true)

pub overflow_cast-total : goal.overflow_cast-total
overflow_cast-total c = omega (arith, digit_at c.args.s.now c.args.at c.args.n c.requires.fact_2 c.requires.fact_3 c.loop-k.k c.loop-k-test.true)

pub overflow_add-total-in-loop-k : goal.overflow_add-total-in-loop-k
overflow_add-total-in-loop-k c = omega (arith, digit_at c.args.s.now c.args.at c.args.n c.requires.fact_2 c.requires.fact_3 c.loop-k.k c.loop-k-test.true, c.loop-k.invariant.1, decimal-fits c.args.s.now c.args.at c.args.n c.requires.fact_2 c.requires.fact_3 c.loop-k.k c.loop-k-test.true c.requires.fact_1)

pub loop-k-preserved : goal.loop-k-preserved
loop-k-preserved c = (omega arith, rw c.loop-k.invariant.1 (sym (decimal_more c.args.s.now c.args.at c.loop-k.k (omega (arith, c.requires.fact_2)))))

pub returns : goal.returns
returns c = let e : c.loop-k.k ≡ c.args.n = omega arith in c.loop-k.invariant.1 ∙ ap (λ k. decimal (take k (drop c.args.at c.args.s.now))) e
