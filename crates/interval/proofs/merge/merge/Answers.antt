use Rattle.std.proofs.Common.{arith}
use Rattle.interval.proofs.Drawing.{in_neither}
use Rattle.interval.proofs.Sweep.{merging_start, i_few, j_few, n_few, merged, more, i_next, j_next, merging_keep, merging_emit}
use Rattle.interval.proofs.merge.merge.Goals as goal
use Rattle.interval.proofs.merge.merge.Goals.{then-changes, else-changes}

pub next_edge-m-requires : goal.next_edge-m-requires
next_edge-m-requires c = omega arith

pub loop-m-init : goal.loop-m-init
loop-m-init c = (merging_start c.requires.fact_1.climbs_a c.requires.fact_1.climbs_b (in_neither c.args.op) c.requires.fact_2, c.next_edge-m.ensures)

pub advance-i-requires : goal.advance-i-requires
advance-i-requires c = omega (arith, i_few c.requires.fact_1 c.loop-m.invariant.0, c.requires.fact_1.few)

pub advance-j-requires : goal.advance-j-requires
advance-j-requires c = omega (arith, j_few c.requires.fact_1 c.loop-m.invariant.0, c.requires.fact_1.few)

pub changes-requires : goal.changes-requires
changes-requires c = tt

pub offset_bounds-out-n : goal.offset_bounds-out-n
offset_bounds-out-n c = omega (arith, n_few c.requires.fact_1 c.loop-m.invariant.0, i_few c.requires.fact_1 c.loop-m.invariant.0, j_few c.requires.fact_1 c.loop-m.invariant.0, c.requires.fact_1.few)

pub bounds-out-n : goal.bounds-out-n
bounds-out-n c = omega (arith, n_few c.requires.fact_1 c.loop-m.invariant.0, i_few c.requires.fact_1 c.loop-m.invariant.0, j_few c.requires.fact_1 c.loop-m.invariant.0, c.requires.fact_1.few)

pub overflow_add-n : goal.overflow_add-n
overflow_add-n c = omega (arith, n_few c.requires.fact_1 c.loop-m.invariant.0, i_few c.requires.fact_1 c.loop-m.invariant.0, j_few c.requires.fact_1 c.loop-m.invariant.0, c.requires.fact_1.few)

pub next_edge-m-requires-in-loop-m : goal.next_edge-m-requires-in-loop-m
next_edge-m-requires-in-loop-m c =
    let u = c.requires.fact_1 in
    let l = c.loop-m.invariant in
    let i = i_next u l.0 l.1 c.loop-m-test.true c.advance-i.ensures c.advance-j.ensures in
    let j = j_next u l.0 l.1 c.loop-m-test.true c.advance-i.ensures c.advance-j.ensures in
    (omega (arith, u.few), omega (arith, u.few))

pub loop-m-smaller : goal.loop-m-smaller
loop-m-smaller c =
    let u = c.requires.fact_1 in
    let l = c.loop-m.invariant in
    let i = i_next u l.0 l.1 c.loop-m-test.true c.advance-i.ensures c.advance-j.ensures in
    let j = j_next u l.0 l.1 c.loop-m-test.true c.advance-i.ensures c.advance-j.ensures in
    omega (arith, more u l.0 l.1 c.loop-m-test.true c.advance-i.ensures c.advance-j.ensures)

pub loop-m-preserved : goal.loop-m-preserved
loop-m-preserved c =
    let u = c.requires.fact_1 in
    let l = c.loop-m.invariant in (
      elim c.if-changes.branch [
        | then-changes w ↦ rw (w.n-is, w.out-is) (merging_emit u l.0 l.1 c.loop-m-test.true c.advance-i.ensures c.advance-j.ensures c.changes.ensures w.if-changes.true)
        | else-changes w ↦ rw (w.n-is, w.out-is) (merging_keep u l.0 l.1 c.loop-m-test.true c.advance-i.ensures c.advance-j.ensures c.changes.ensures w.if-changes.false)
      ],
      c.next_edge-m-in-loop-m.ensures,
    )

pub returns : goal.returns
returns c = merged c.requires.fact_1 c.loop-m.invariant.0 c.loop-m.invariant.1 c.loop-m-test.false
