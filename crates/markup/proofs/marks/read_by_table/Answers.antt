use Prim.Native.Nat.{ℕ}
use mathlib.Core.Path.{sym, ◌∙◌}
use native.Mathlib.Omega.{arith}
use lib.ListN.{length-replicate, length-set}
use Rattle.markup.specs.Attributes.{sure, unsure}
use Rattle.markup.proofs.Attributes.{next_at, next_stops}
use Rattle.markup.proofs.Marking.{HasMark, spot_is, spot_free, held-marked, held-not, held_stays, held-put}
use Rattle.markup.proofs.Apart.{known-not}
use Rattle.markup.proofs.Begun.{begun-start, begun-end, begun_more, begun_again}
use borrow.Author.Rules.{rules}
use Rattle.markup.proofs.marks.read_by_table.Goals as goal

pub loop-a-init : goal.loop-a-init
loop-a-init c = (length-replicate {A = ℕ} 3_072 0, begun-start _ (search rules))

pub slice_bounds-mix-start : goal.slice_bounds-mix-start
slice_bounds-mix-start c = omega (arith, (next_at c.in-Some.ensures).attr.name_low)

pub slice_bounds-mix-end : goal.slice_bounds-mix-end
slice_bounds-mix-end c = let a = (next_at c.in-Some.ensures).attr in omega (arith, a.name_high, a.value_low, a.high)

pub bounds-table-k : goal.bounds-table-k
bounds-table-k c = (spot_free c.in-Free.ensures).0

pub slice_bounds-is_before-start : goal.slice_bounds-is_before-start
slice_bounds-is_before-start c = omega (arith, (next_at c.in-Some.ensures).attr.name_low)

pub slice_bounds-is_before-end : goal.slice_bounds-is_before-end
slice_bounds-is_before-end c = let a = (next_at c.in-Some.ensures).attr in omega (arith, a.name_high, a.value_low, a.high)

pub returns-then-is_before : goal.returns-then-is_before
returns-then-is_before c =
    let n = next_at c.in-Some.ensures in
    let b = c.loop-a.invariant.1 in
    sure _ (begun_again b n.gap n.attr (sym (c.is_before.ensures b.names b.from) ∙ c.if-is_before.true))

pub returns-in-Full : goal.returns-in-Full
returns-in-Full c = unsure

pub loop-a-smaller-in-Free : goal.loop-a-smaller-in-Free
loop-a-smaller-in-Free c =
    let n = next_at c.in-Some.ensures in
    omega (arith, n.gap.low, n.attr.name_low, n.attr.name_high, n.attr.value_low, n.attr.high)

pub loop-a-preserved-in-Free : goal.loop-a-preserved-in-Free
loop-a-preserved-in-Free c =
    let next = next_at c.in-Some.ensures in
    let (n, b) = c.loop-a.invariant in
    let t = c.loop-a.table in
    let p = c.in-Free.ensures in
    let m = c.mix-h.ensures.0 in (
      length-set t _ _ ∙ n,
      begun_more b next.gap next.attr (HasMark _) (known-not (HasMark t) _ b.names b.known (λ h. held-not p (rw m h)))
          (λ n. held_stays t _ _ (spot_free p).1 _) (rw (← m) (held-put n p c.mark.ensures)),
    )

pub loop-a-smaller : goal.loop-a-smaller
loop-a-smaller c =
    let n = next_at c.in-Some.ensures in
    omega (arith, n.gap.low, n.attr.name_low, n.attr.name_high, n.attr.value_low, n.attr.high)

pub loop-a-preserved : goal.loop-a-preserved
loop-a-preserved c =
    let next = next_at c.in-Some.ensures in
    let (n, b) = c.loop-a.invariant in
    let t = c.loop-a.table in
    let m = c.mix-h.ensures.0 in
    (n, begun_more b next.gap next.attr (HasMark t) (sym (c.is_before.ensures b.names b.from) ∙ c.if-is_before.false) (λ n h. h) (rw (← m) (held-marked c.in-Marked.ensures)))

pub returns : goal.returns
returns c = sure _ (begun-end c.loop-a.invariant.1 (next_stops c.in_default.ensures))
