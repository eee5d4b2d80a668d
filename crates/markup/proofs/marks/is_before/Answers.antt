use mathlib.Core.Path.{sym, ◌∙◌}
use native.Mathlib.Omega.{arith}
use Rattle.markup.proofs.Attributes.{next_at, next_stops}
use Rattle.markup.proofs.Before.{tells-end, tells-stop, tells_more, tells_here}
use borrow.Author.Rules.{rules}
use Rattle.markup.proofs.marks.is_before.Goals as goal

pub loop-i-init : goal.loop-i-init
loop-i-init c = (search rules, λ r h. h)

pub returns-in_default : goal.returns-in_default
returns-in_default c = c.loop-i.invariant.1 _ (tells-stop _ (next_stops c.in_default.ensures))

pub slice_bounds-is_same-start : goal.slice_bounds-is_same-start
slice_bounds-is_same-start c = omega (arith, (next_at c.in-Some.ensures).attr.name_low)

pub slice_bounds-is_same-end : goal.slice_bounds-is_same-end
slice_bounds-is_same-end c = let a = (next_at c.in-Some.ensures).attr in omega (arith, a.name_high, a.value_low, a.high)

pub returns-then-is_same : goal.returns-then-is_same
returns-then-is_same c =
    let n = next_at c.in-Some.ensures in
    c.loop-i.invariant.1 _ (tells_here n.gap n.attr _ c.loop-i-test.true (sym c.is_same.ensures ∙ c.if-is_same.true))

pub loop-i-smaller : goal.loop-i-smaller
loop-i-smaller c =
    let n = next_at c.in-Some.ensures in
    omega (arith, n.gap.low, n.attr.name_low, n.attr.name_high, n.attr.value_low, n.attr.high)

pub loop-i-preserved : goal.loop-i-preserved
loop-i-preserved c =
    let n = next_at c.in-Some.ensures in
    (n.attr.high, λ r h. c.loop-i.invariant.1 r (tells_more n.gap n.attr _ c.loop-i-test.true (sym c.is_same.ensures ∙ c.if-is_same.false) r h))

pub returns : goal.returns
returns c = c.loop-i.invariant.1 _ (tells-end _ c.loop-i-test.false)
