-- `comparison::times::compare_moments` meets its contract.
use mathlib.Core.Path.{refl}
use Rattle.rules.specs.Comparison.{compare_moments}
use Rattle.comparison.proofs.Answers.{chosen, left_over}
use Rattle.comparison.proofs.times.compare_moments.Goals as goal

pub returns-then-a-b : goal.returns-then-a-b
unfolding compare_moments
returns-then-a-b c = chosen refl _ c.if-a-b.true refl

pub returns-then-a-b-2 : goal.returns-then-a-b-2
unfolding compare_moments
returns-then-a-b-2 c = left_over refl _ c.if-a-b.false (chosen refl _ c.if-a-b-2.true refl)

pub returns : goal.returns
unfolding compare_moments
returns c = left_over refl _ c.if-a-b.false (left_over refl _ c.if-a-b-2.false refl)
