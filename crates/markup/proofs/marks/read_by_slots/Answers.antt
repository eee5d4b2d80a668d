use mathlib.Core.Path.{◌∙◌}
use mathlib.Core.Bool.{Bool, false}
use native.Mathlib.Omega.{arith}
use lib.ListN.{length-replicate, length-set}
use Rattle.markup.specs.Attributes.{sure, unsure}
use Rattle.markup.proofs.Attributes.{next_at, next_stops, name-some}
use Rattle.markup.proofs.Begun.{begun-start, begun-end}
use Rattle.markup.proofs.Slots.{slot_more}
use borrow.Author.Rules.{rules}
use Rattle.markup.proofs.marks.read_by_slots.Goals as goal

pub loop-a-init : goal.loop-a-init
loop-a-init c = (length-replicate {A = Bool} 64 false, begun-start _ (search rules))

pub slice_bounds-slot-start : goal.slice_bounds-slot-start
slice_bounds-slot-start c = omega (arith, (next_at c.in-Some.ensures).attr.name_low)

pub slice_bounds-slot-end : goal.slice_bounds-slot-end
slice_bounds-slot-end c = let a = (next_at c.in-Some.ensures).attr in omega (arith, a.name_high, a.value_low, a.high)

pub slot-k-requires : goal.slot-k-requires
slot-k-requires c = name-some (next_at c.in-Some.ensures).attr

pub returns-then-taken-k : goal.returns-then-taken-k
returns-then-taken-k c = unsure

pub loop-a-smaller : goal.loop-a-smaller
loop-a-smaller c =
    let n = next_at c.in-Some.ensures in
    omega (arith, n.gap.low, n.attr.name_low, n.attr.name_high, n.attr.value_low, n.attr.high)

pub loop-a-preserved : goal.loop-a-preserved
loop-a-preserved c =
    let n = next_at c.in-Some.ensures in
    let (k, b) = c.loop-a.invariant in
    let t = c.loop-a.taken in
    let (e, l) = c.slot-k.ensures in
    (length-set t _ _ ∙ k, slot_more t k b n.gap n.attr e l c.if-taken-k.false)

pub returns : goal.returns
returns c = sure _ (begun-end c.loop-a.invariant.1 (next_stops c.in_default.ensures))
