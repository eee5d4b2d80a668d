use Prim.Native.Nat.{◌+◌}
use mathlib.Core.Path.{◌≡◌, refl, sym, ◌∙◌}
use native.Mathlib.Omega.{arith}
use Rattle.rules.specs.Basics.{every, is_digit}
use Rattle.text.proofs.Following.{every_more}
use Rattle.text.proofs.Numerals.{none-at-end, none-at}
use Rattle.text.proofs.digits.count.Goals as goal

pub loop-n-init : goal.loop-n-init
unfolding every
loop-n-init c = (omega arith, omega (arith, c.requires), refl)

pub overflow_sub-s : goal.overflow_sub-s
overflow_sub-s c = omega (arith, c.requires)

pub returns-then-s-at : goal.returns-then-s-at
returns-then-s-at c = record { few = c.loop-n.invariant.0; high = c.loop-n.invariant.1; digits = c.loop-n.invariant.2; stop = λ l. none-at-end is_digit c.args.s.now (c.args.at + c.loop-n.n) (omega (arith, c.if-s-at.true)) }

pub bounds-s-at : goal.bounds-s-at
bounds-s-at c = omega (arith, c.if-s-at.false)

pub returns-then-not-is_digit : goal.returns-then-not-is_digit
returns-then-not-is_digit c = record { few = c.loop-n.invariant.0; high = c.loop-n.invariant.1; digits = c.loop-n.invariant.2; stop = λ l. none-at is_digit c.args.s.now (c.args.at + c.loop-n.n) (omega (arith, c.if-s-at.false)) (sym c.is_digit.ensures ∙ c.if-not-is_digit.true) }

pub loop-n-preserved : goal.loop-n-preserved
loop-n-preserved c = (omega arith, omega (arith, c.if-s-at.false), sym (every_more is_digit c.args.s.now c.args.at c.loop-n.n (omega (arith, c.if-s-at.false))) ∙ rw c.loop-n.invariant.2 (sym c.is_digit.ensures ∙ c.if-not-is_digit.false))

pub returns : goal.returns
returns c =
    let e : c.loop-n.n ≡ c.args.most = omega arith in
    record { few = omega arith; high = rw (← e) c.loop-n.invariant.1; digits = rw (← e) c.loop-n.invariant.2; stop = λ l. absurd (omega arith) }
