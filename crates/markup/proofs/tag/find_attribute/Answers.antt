use mathlib.Core.Path.{sym, ◌∙◌}
use native.Mathlib.Omega.{arith}
use Rattle.markup.proofs.Attributes.{next_at, next_stops, find-end, find_more, find_here}
use borrow.Author.Rules.{rules}
use Rattle.markup.proofs.tag.find_attribute.Goals as goal

pub loop-a-init : goal.loop-a-init
loop-a-init c = (search rules, λ r h. h)

pub slice_bounds-is_same-start : goal.slice_bounds-is_same-start
slice_bounds-is_same-start c = omega (arith, (next_at c.in-Some.ensures).attr.name_low)

pub slice_bounds-is_same-end : goal.slice_bounds-is_same-end
slice_bounds-is_same-end c = let a = (next_at c.in-Some.ensures).attr in omega (arith, a.name_high, a.value_low, a.high)

pub returns-then-is_same : goal.returns-then-is_same
returns-then-is_same c =
    let n = next_at c.in-Some.ensures in
    c.loop-a.invariant.1 _ (find_here n.gap n.attr _ (sym c.is_same.ensures ∙ c.if-is_same.true))

pub loop-a-smaller : goal.loop-a-smaller
loop-a-smaller c =
    let n = next_at c.in-Some.ensures in
    omega (arith, n.gap.low, n.attr.name_low, n.attr.name_high, n.attr.value_low, n.attr.high)

pub loop-a-preserved : goal.loop-a-preserved
loop-a-preserved c =
    let n = next_at c.in-Some.ensures in
    (n.attr.high, λ r h. c.loop-a.invariant.1 r (find_more n.gap n.attr _ (sym c.is_same.ensures ∙ c.if-is_same.false) r h))

pub returns : goal.returns
returns c = c.loop-a.invariant.1 _ (find-end _ (next_stops c.in_default.ensures))
