use mathlib.Core.Path.{refl, sym, ◌∙◌}
use native.Mathlib.Omega.{arith}
use Rattle.rules.specs.Markup.{tag_attributes}
use Rattle.text.proofs.Reading.{enough}
use Rattle.markup.specs.Attributes.{distinct_attributes}
use Rattle.markup.proofs.Attributes.{next_at, next_stops, told-sure, distinct-end, distinct_again, distinct_more}
use borrow.Author.Rules.{rules}
use Rattle.markup.proofs.tag.read_by_search.Goals as goal

pub loop-a-init : goal.loop-a-init
loop-a-init c = (search rules, λ r h. h)

pub slice_bounds-find_attribute-start : goal.slice_bounds-find_attribute-start
slice_bounds-find_attribute-start c = omega (arith, (next_at c.in-Some.ensures).attr.name_low)

pub slice_bounds-find_attribute-end : goal.slice_bounds-find_attribute-end
slice_bounds-find_attribute-end c = let a = (next_at c.in-Some.ensures).attr in omega (arith, a.name_high, a.value_low, a.high)

pub find_attribute-requires : goal.find_attribute-requires
find_attribute-requires c = (next_at c.in-Some.ensures).attr.high

pub returns-then-is_some : goal.returns-then-is_some
unfolding tag_attributes
returns-then-is_some c =
    let n = next_at c.in-Some.ensures in
    enough distinct_attributes (c.loop-a.invariant.1 _ (distinct_again n.gap n.attr (sym c.if-is_some.ensures) c.find_attribute.ensures))

pub read_by_table-requires : goal.read_by_table-requires
read_by_table-requires c = (next_at c.in-Some.ensures).attr.high

pub returns-in-Some-read_by_table : goal.returns-in-Some-read_by_table
unfolding tag_attributes
returns-in-Some-read_by_table c =
    let n = next_at c.in-Some.ensures in
    enough distinct_attributes (c.loop-a.invariant.1 _ (distinct_more n.gap n.attr (sym c.if-is_some.ensures) c.find_attribute.ensures _ (told-sure c.in-Some-read_by_table.ensures)))

pub loop-a-smaller : goal.loop-a-smaller
loop-a-smaller c =
    let n = next_at c.in-Some.ensures in
    omega (arith, n.gap.low, n.attr.name_low, n.attr.name_high, n.attr.value_low, n.attr.high)

pub loop-a-preserved : goal.loop-a-preserved
loop-a-preserved c =
    let n = next_at c.in-Some.ensures in
    (n.attr.high, λ r h. c.loop-a.invariant.1 r (distinct_more n.gap n.attr (sym c.if-is_some.ensures) c.find_attribute.ensures r h))

pub returns : goal.returns
unfolding tag_attributes
returns c = enough distinct_attributes (c.loop-a.invariant.1 _ (distinct-end c.loop-a.invariant.0 (next_stops c.in_default.ensures)))
