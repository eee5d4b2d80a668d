use mathlib.Core.Path.{refl, sym, ◌∙◌}
use native.Mathlib.Omega.{arith}
use Rattle.form.proofs.Parting.{exists_here, exists_last, exists_more}
use Rattle.form.proofs.parts.is_word.Goals as goal

pub loop-from-init : goal.loop-from-init
loop-from-init c = (omega arith, refl)

pub part_end-end-requires : goal.part_end-end-requires
part_end-end-requires c = c.loop-from.invariant.0

pub slice_bounds-is_same-count : goal.slice_bounds-is_same-count
slice_bounds-is_same-count c = c.part_end-end.ensures.low

pub slice_bounds-is_same-start : goal.slice_bounds-is_same-start
slice_bounds-is_same-start c = c.part_end-end.ensures.low

pub slice_bounds-is_same-end : goal.slice_bounds-is_same-end
slice_bounds-is_same-end c = c.part_end-end.ensures.high

pub is_same-requires : goal.is_same-requires
is_same-requires c = tt

pub returns-then-is_same : goal.returns-then-is_same
returns-then-is_same c = sym (exists_here _ 32 _ _ _ c.part_end-end.ensures (sym c.is_same.ensures ∙ c.if-is_same.true)) ∙ c.loop-from.invariant.1

pub returns-then-end-list : goal.returns-then-end-list
returns-then-end-list c = sym (exists_last _ 32 _ _ _ c.part_end-end.ensures (sym c.is_same.ensures ∙ c.if-is_same.false) c.if-end-list.true) ∙ c.loop-from.invariant.1

pub overflow_add-from : goal.overflow_add-from
overflow_add-from c = omega (arith, c.part_end-end.ensures.high, c.if-end-list.false)

pub loop-from-smaller : goal.loop-from-smaller
loop-from-smaller c = omega (arith, c.part_end-end.ensures.low, c.part_end-end.ensures.high, c.if-end-list.false)

pub loop-from-preserved : goal.loop-from-preserved
loop-from-preserved c =
    (omega (arith, c.part_end-end.ensures.high, c.if-end-list.false), sym (exists_more _ 32 _ _ _ c.part_end-end.ensures (sym c.is_same.ensures ∙ c.if-is_same.false) (omega (arith, c.part_end-end.ensures.high, c.if-end-list.false))) ∙ c.loop-from.invariant.1)
