use Rattle.std.proofs.Common.{◌≡◌, length, arith, length-set}
use Rattle.totals.proofs.Rows.{length_mapped}
use Rattle.totals.proofs.Putting.{begin, more, all-put}
use Rattle.totals.proofs.report.put_rows.Goals as goal

pub loop-k-init : goal.loop-k-init
loop-k-init c = begin c.args.out.now c.args.t c.requires.fact_2

pub offset_bounds-t-k : goal.offset_bounds-t-k
offset_bounds-t-k c = omega (arith, c.loop-k-test.true, c.requires.fact_1)

pub bounds-t-k : goal.bounds-t-k
bounds-t-k c = omega (arith, c.loop-k-test.true, c.requires.fact_1)

pub overflow_mul-out : goal.overflow_mul-out
overflow_mul-out c = omega (arith, c.loop-k-test.true, c.requires.fact_1)

pub overflow_add-out : goal.overflow_add-out
overflow_add-out c = omega (arith, c.loop-k-test.true, c.requires.fact_1)

pub offset_bounds-out-k : goal.offset_bounds-out-k
offset_bounds-out-k c = omega (arith, c.loop-k-test.true, c.requires.fact_1)

pub bounds-out-k : goal.bounds-out-k
bounds-out-k c = omega (arith, c.loop-k-test.true, c.requires, c.loop-k.invariant.same_room)

pub overflow_mul-out-in-loop-k : goal.overflow_mul-out-in-loop-k
overflow_mul-out-in-loop-k c = omega (arith, c.loop-k-test.true, c.requires.fact_1)

pub overflow_add-out-in-loop-k : goal.overflow_add-out-in-loop-k
overflow_add-out-in-loop-k c = omega (arith, c.loop-k-test.true, c.requires.fact_1)

pub offset_bounds-out-k-in-loop-k : goal.offset_bounds-out-k-in-loop-k
offset_bounds-out-k-in-loop-k c = omega (arith, c.loop-k-test.true, c.requires.fact_1)

pub bounds-out-k-in-loop-k : goal.bounds-out-k-in-loop-k
bounds-out-k-in-loop-k c = rw length-set (omega (arith, c.loop-k-test.true, c.requires, c.loop-k.invariant.same_room))

pub loop-k-preserved : goal.loop-k-preserved
loop-k-preserved c =
    let g : length c.args.t.rows ≡ 16 = search length_mapped in
    more c.args.out.now c.args.t c.requires.fact_2 c.loop-k.out c.loop-k.k g c.requires.fact_1 c.loop-k.invariant c.loop-k-test.true

pub shape_of-out : goal.shape_of-out
shape_of-out c = omega (arith, c.loop-k.invariant.same_room)

pub returns : goal.returns
returns c =
    let g : length c.args.t.rows ≡ 16 = search length_mapped in
    all-put c.args.out.now c.args.t c.requires.fact_2 c.loop-k.out c.loop-k.k g c.requires.fact_1 c.loop-k.invariant c.loop-k-test.false
