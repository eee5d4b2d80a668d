use mathlib.Core.Path.{sym, ◌∙◌, ap}
use native.Mathlib.Omega.{arith}
use Rattle.markup.specs.Marks.{next_place, free, marked, full}
use Rattle.markup.proofs.Marking.{place_first, place_more, passes_none, passes_more}
use Rattle.markup.proofs.marks.find_spot.Goals as goal

pub mark-m-requires : goal.mark-m-requires
mark-m-requires c = tt

pub loop-tries-init : goal.loop-tries-init
loop-tries-init c = (place_first _, omega arith, passes_none c.args.h c.args.table.now)

pub returns-then-table-i-eq0 : goal.returns-then-table-i-eq0
returns-then-table-i-eq0 c = let v = c.loop-tries.invariant in free _ _ v.0 v.1 v.2 c.if-table-i-eq0.true

pub returns-then-table-i : goal.returns-then-table-i
returns-then-table-i c = let v = c.loop-tries.invariant in marked _ _ v.0 v.2 (c.if-table-i.true ∙ c.mark-m.ensures)

pub loop-tries-preserved : goal.loop-tries-preserved
loop-tries-preserved c =
    let a = c.args in
    let v = c.loop-tries.invariant in (
      place_more _ _ ∙ ap next_place v.0 ∙ sym c.next_place-i.ensures.0,
      c.next_place-i.ensures.1,
      passes_more a.h a.table.now v.0 c.mark-m.ensures v.2 c.if-table-i-eq0.false c.if-table-i.false,
    )

pub returns : goal.returns
returns c = full
