use Rattle.std.proofs.Common.{◌≡◌, length, refl, arith}
use Rattle.totals.proofs.Rows.{length_mapped}
use Rattle.totals.proofs.Sharing.{begin, put-room, other-next, own_next, put_other, put_own, put-none, rest-room, all-put}
use Rattle.totals.proofs.share.put_rows.Goals as goal

pub loop-i-init : goal.loop-i-init
loop-i-init c = begin c.args.numbers.now c.args.desk _ c.args.t c.requires.fact_1 refl

pub overflow_mul-owner : goal.overflow_mul-owner
overflow_mul-owner c = omega (arith, c.loop-i-test.true, c.requires.fact_2)

pub overflow_add-owner : goal.overflow_add-owner
overflow_add-owner c = omega (arith, c.loop-i-test.true, c.requires.fact_2)

pub offset_bounds-numbers-i : goal.offset_bounds-numbers-i
offset_bounds-numbers-i c = omega (arith, c.loop-i-test.true, c.requires.fact_2)

pub bounds-numbers-i : goal.bounds-numbers-i
bounds-numbers-i c = omega (arith, c.loop-i-test.true, c.requires.fact_2)

pub overflow_mul-row : goal.overflow_mul-row
overflow_mul-row c = omega (arith, c.loop-i-test.true, c.requires.fact_2)

pub overflow_add-row : goal.overflow_add-row
overflow_add-row c = omega (arith, c.loop-i-test.true, c.requires.fact_2)

pub offset_bounds-numbers-i-then-owner-desk : goal.offset_bounds-numbers-i-then-owner-desk
offset_bounds-numbers-i-then-owner-desk c = omega (arith, c.loop-i-test.true, c.requires.fact_2)

pub bounds-numbers-i-then-owner-desk : goal.bounds-numbers-i-then-owner-desk
bounds-numbers-i-then-owner-desk c = omega (arith, c.loop-i-test.true, c.requires.fact_2)

pub overflow_mul-row-then-owner-desk : goal.overflow_mul-row-then-owner-desk
overflow_mul-row-then-owner-desk c = omega (arith, c.loop-i-test.true, c.requires.fact_2)

pub overflow_add-row-then-owner-desk : goal.overflow_add-row-then-owner-desk
overflow_add-row-then-owner-desk c = omega (arith, c.loop-i-test.true, c.requires.fact_2)

pub offset_bounds-numbers-i-then-owner-desk-2 : goal.offset_bounds-numbers-i-then-owner-desk-2
offset_bounds-numbers-i-then-owner-desk-2 c = omega (arith, c.loop-i-test.true, c.requires.fact_2)

pub bounds-numbers-i-then-owner-desk-2 : goal.bounds-numbers-i-then-owner-desk-2
bounds-numbers-i-then-owner-desk-2 c = omega (arith, c.loop-i-test.true, c.requires.fact_2)

pub put_row-requires : goal.put_row-requires
put_row-requires c =
    let g : length c.args.t.rows ≡ 16 = search length_mapped in
    record { fact_1 = c.loop-i.invariant.room; fact_2 = put-room c.args.numbers.now c.args.desk _ c.args.t g c.requires.fact_3 c.requires.fact_4 c.loop-i.numbers c.loop-i.i c.loop-i.j c.loop-i.k c.loop-i.invariant _ _ (other-next c.args.numbers.now c.args.desk _ c.args.t g c.requires.fact_3 c.requires.fact_4 c.loop-i.numbers c.loop-i.i c.loop-i.j c.loop-i.k c.loop-i.invariant c.loop-i-test.true c.if-owner-desk.true) }

pub overflow_add-j : goal.overflow_add-j
overflow_add-j c = omega (arith, c.loop-i-test.true, c.loop-i.invariant.behind, c.requires.fact_2)

pub loop-i-preserved-then-owner-desk : goal.loop-i-preserved-then-owner-desk
loop-i-preserved-then-owner-desk c =
    let g : length c.args.t.rows ≡ 16 = search length_mapped in
    rw c.put_row.ensures (put_other c.args.numbers.now c.args.desk _ c.args.t g c.requires.fact_3 c.requires.fact_4 c.loop-i.numbers c.loop-i.i c.loop-i.j c.loop-i.k c.loop-i.invariant c.loop-i-test.true c.if-owner-desk.true)

pub loop-i-preserved-then-k-t : goal.loop-i-preserved-then-k-t
loop-i-preserved-then-k-t c =
    let g : length c.args.t.rows ≡ 16 = search length_mapped in
    put-none c.args.numbers.now c.args.desk _ c.args.t g c.requires.fact_3 c.requires.fact_4 c.loop-i.numbers c.loop-i.i c.loop-i.j c.loop-i.k c.loop-i.invariant c.loop-i-test.true c.if-owner-desk.false (omega (arith, c.if-k-t.true))

pub offset_bounds-t-k : goal.offset_bounds-t-k
offset_bounds-t-k c = omega (arith, c.if-k-t.false, c.loop-i.invariant.mine, c.requires.fact_3)

pub bounds-t-k : goal.bounds-t-k
bounds-t-k c = omega (arith, c.if-k-t.false, c.loop-i.invariant.mine, c.requires.fact_3)

pub put_row-requires-in-loop-i : goal.put_row-requires-in-loop-i
put_row-requires-in-loop-i c =
    let g : length c.args.t.rows ≡ 16 = search length_mapped in
    record { fact_1 = c.loop-i.invariant.room; fact_2 = put-room c.args.numbers.now c.args.desk _ c.args.t g c.requires.fact_3 c.requires.fact_4 c.loop-i.numbers c.loop-i.i c.loop-i.j c.loop-i.k c.loop-i.invariant _ _ (own_next c.args.numbers.now c.args.desk _ c.args.t g c.requires.fact_3 c.requires.fact_4 c.loop-i.numbers c.loop-i.i c.loop-i.j c.loop-i.k c.loop-i.invariant c.loop-i-test.true c.if-owner-desk.false (omega (arith, c.if-k-t.false, c.loop-i.invariant.mine))) }

pub overflow_add-j-in-loop-i : goal.overflow_add-j-in-loop-i
overflow_add-j-in-loop-i c = omega (arith, c.loop-i-test.true, c.loop-i.invariant.behind, c.requires.fact_2)

pub overflow_add-k : goal.overflow_add-k
overflow_add-k c = omega (arith, c.if-k-t.false, c.loop-i.invariant.mine, c.requires.fact_3)

pub loop-i-preserved : goal.loop-i-preserved
loop-i-preserved c =
    let g : length c.args.t.rows ≡ 16 = search length_mapped in
    rw c.put_row-in-loop-i.ensures (put_own c.args.numbers.now c.args.desk _ c.args.t g c.requires.fact_3 c.requires.fact_4 c.loop-i.numbers c.loop-i.i c.loop-i.j c.loop-i.k c.loop-i.invariant c.loop-i-test.true c.if-owner-desk.false (omega (arith, c.if-k-t.false, c.loop-i.invariant.mine)))

pub put_rest-requires : goal.put_rest-requires
put_rest-requires c =
    let g : length c.args.t.rows ≡ 16 = search length_mapped in
    record { fact_1 = c.loop-i.invariant.room; fact_2 = c.requires.fact_3; fact_3 = c.loop-i.invariant.mine; fact_4 = rest-room c.args.numbers.now c.args.desk _ c.args.t g c.requires.fact_3 c.requires.fact_4 c.loop-i.numbers c.loop-i.i c.loop-i.j c.loop-i.k c.loop-i.invariant c.loop-i-test.false }

pub returns : goal.returns
returns c =
    let g : length c.args.t.rows ≡ 16 = search length_mapped in let all = all-put c.args.numbers.now c.args.desk _ c.args.t g c.requires.fact_3 c.requires.fact_4 c.loop-i.numbers c.loop-i.i c.loop-i.j c.loop-i.k c.loop-i.invariant c.loop-i-test.false c.put_rest.ensures.rows c.put_rest.ensures.put in record { rows = all.0; put = all.1 }
