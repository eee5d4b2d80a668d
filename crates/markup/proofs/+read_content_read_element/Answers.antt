use mathlib.Core.Path.{sym}
use native.Mathlib.Omega.{arith}
use lib.ListN.{length}
use Rattle.text.proofs.Reading.{answer, good}
use Rattle.markup.proofs.Tags.{tag-bounds}
use Rattle.markup.proofs.Elements.{too_deep, no_element, empty-element, full-element, content-end, content_more}
use Prim.Native.Nat.{◌+◌}
use Rattle.markup.proofs.+read_content_read_element.Goals as goal

pub read_content-loop-end-init : goal.read_content-loop-end-init
read_content-loop-end-init t c = (omega arith, c.requires, λ e h. h)

pub read_content-skip_space-j-requires : goal.read_content-skip_space-j-requires
read_content-skip_space-j-requires t c = c.loop-end.invariant.1

pub read_content-read_element-requires : goal.read_content-read_element-requires
read_content-read_element-requires t c =
    (omega (arith, c.skip_space-j.ensures.low, c.skip_space-j.ensures.high, c.loop-end.invariant.0), c.skip_space-j.ensures.high)

pub read_content-returns-in_default : goal.read_content-returns-in_default
read_content-returns-in_default t c = c.loop-end.invariant.2 _ (content-end _ c.skip_space-j.ensures c.in_default.ensures)

pub read_content-loop-end-smaller : goal.read_content-loop-end-smaller
read_content-loop-end-smaller t c =
    let g = good (c.in-Some.ensures (length c.args.s.now) (omega arith)) in omega (arith, c.skip_space-j.ensures.low, g.low, g.high)

pub read_content-loop-end-preserved : goal.read_content-loop-end-preserved
read_content-loop-end-preserved t c =
    let g = good (c.in-Some.ensures (length c.args.s.now) (omega arith)) in
    (omega (arith, c.loop-end.invariant.0, c.skip_space-j.ensures.low, g.low), g.high, λ e h. c.loop-end.invariant.2 e (content_more _ c.skip_space-j.ensures c.in-Some.ensures e h))

pub read_element-returns-then-depth-eq0 : goal.read_element-returns-then-depth-eq0
read_element-returns-then-depth-eq0 t c = too_deep _ c.if-depth-eq0.true

pub read_element-read_tag-requires : goal.read_element-read_tag-requires
read_element-read_tag-requires t c = c.requires

pub read_element-returns-in_err-tag : goal.read_element-returns-in_err-tag
read_element-returns-in_err-tag t c = λ f h. answer (sym c.from_residual.ensures) (no_element _ c.in_err-tag.ensures f h)

pub read_element-read_content-i-requires : goal.read_element-read_content-i-requires
read_element-read_content-i-requires t c = let b = tag-bounds c.in_ok-tag.ensures in (omega (arith, b.0, b.1), b.1)

pub read_element-read_end_tag-requires : goal.read_element-read_end_tag-requires
read_element-read_end_tag-requires t c =
    let b = tag-bounds c.in_ok-tag.ensures in record { fact_1 = (good (c.read_content-i.ensures (length c.args.s.now + 1) (omega arith))).high; fact_2 = b.2; fact_3 = b.3 }

pub read_element-returns-then-tag : goal.read_element-returns-then-tag
read_element-returns-then-tag t c = full-element _ c.if-depth-eq0.false c.if-tag.true c.in_ok-tag.ensures c.read_content-i.ensures c.read_end_tag.ensures

pub read_element-returns : goal.read_element-returns
read_element-returns t c = empty-element _ c.if-depth-eq0.false c.if-tag.false c.in_ok-tag.ensures
