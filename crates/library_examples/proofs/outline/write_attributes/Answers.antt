use Rattle.std.proofs.Common.{arith}
use Rattle.markup.proofs.Attributes.{next_at}
use Rattle.library_examples.proofs.outline.write_attributes.Goals as goal

pub loop-a-init : goal.loop-a-init
loop-a-init c = c.requires

pub next_attribute-requires : goal.next_attribute-requires
next_attribute-requires c = c.loop-a.invariant

pub slice_bounds-put-start : goal.slice_bounds-put-start
slice_bounds-put-start c = omega (arith, (next_at c.in-Some.ensures).attr.name_low)

pub slice_bounds-put-end : goal.slice_bounds-put-end
slice_bounds-put-end c = let a = (next_at c.in-Some.ensures).attr in omega (arith, a.name_high, a.value_low, a.high)

pub write_value-requires : goal.write_value-requires
write_value-requires c = let a = (next_at c.in-Some.ensures).attr in omega (arith, a.value_low, a.high)

pub loop-a-smaller : goal.loop-a-smaller
loop-a-smaller c =
    let n = next_at c.in-Some.ensures in
    omega (arith, n.gap.low, n.attr.name_low, n.attr.name_high, n.attr.value_low, n.attr.high)

pub loop-a-preserved : goal.loop-a-preserved
loop-a-preserved c = (next_at c.in-Some.ensures).attr.high
