-- `judge::rule::is_crossed` meets its contract.
use mathlib.Core.Path.{sym, ap, ◌∙◌}
use mathlib.Core.Bool.{Bool}
use borrow.Author.Tests.{ltb-true, leb-true}
use Rattle.rules.specs.Invariants.{high, is_pushed}
use Rattle.rules.proofs.Tests.{both_true}
use Rattle.rules.proofs.TickOrder.{uncrossed}
use Rattle.timestamp.specs.Moments.{moment_of}
use Rattle.judge.proofs.Crossing.{low_unvalued, high_unvalued, crossed_pushed, crossed_unpushed}
use Rattle.judge.proofs.rule.is_crossed.Goals as goal

pub returns-in_default : goal.returns-in_default
returns-in_default c = λ l p. low_unvalued _ c.args.low _ c.in_default.not-Valued

pub returns-in_default-high : goal.returns-in_default-high
returns-in_default-high c = λ l p.
    rw c.in-Valued.is (high_unvalued _ (moment_of c.in-Valued.l) c.args.high c.in_default-high.not-Valued)

pub returns-then-l-h : goal.returns-then-l-h
returns-then-l-h c = λ l p.
    let (a, b) = both_true _ _ c.if-l-h.true in
    rw (c.in-Valued.is, c.in-Valued-high.is)
    (sym (uncrossed _ (moment_of c.in-Valued.l) (moment_of c.in-Valued-high.h) (leb-true _ _ a) (ltb-true _ _ b)))

pub returns-then-is_pushed : goal.returns-then-is_pushed
returns-then-is_pushed c = λ l p.
    let h = moment_of c.in-Valued-high.h in
    let e = c.is_pushed.ensures ∙ ap (λ (closed : Bool). is_pushed high closed h) (c.has_text.ensures _ p) in
    rw (c.in-Valued.is, c.in-Valued-high.is) (crossed_pushed _ (moment_of c.in-Valued.l) h (sym e ∙ c.if-is_pushed.true))

pub returns : goal.returns
returns c = λ l p.
    let h = moment_of c.in-Valued-high.h in
    let e = c.is_pushed.ensures ∙ ap (λ (closed : Bool). is_pushed high closed h) (c.has_text.ensures _ p) in
    rw (c.in-Valued.is, c.in-Valued-high.is) (crossed_unpushed _ (moment_of c.in-Valued.l) h (sym e ∙ c.if-is_pushed.false))
