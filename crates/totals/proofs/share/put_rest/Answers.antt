use Rattle.std.proofs.Common.{◌≡◌, length, arith}
use Rattle.totals.proofs.Rows.{length_mapped}
use Rattle.totals.proofs.Sharing.{begin_rest, more_rest, all_rest}
use Rattle.totals.proofs.share.put_rest.Goals as goal

pub loop-i-init : goal.loop-i-init
loop-i-init c = begin_rest c.args.numbers.now c.args.desk c.args.t c.args.j c.args.k c.requires.fact_1 c.requires.fact_3

pub offset_bounds-t-i : goal.offset_bounds-t-i
offset_bounds-t-i c = omega (arith, c.loop-i-test.true, c.requires.fact_2)

pub bounds-t-i : goal.bounds-t-i
bounds-t-i c = omega (arith, c.loop-i-test.true, c.requires.fact_2)

pub put_row-requires : goal.put_row-requires
put_row-requires c = record { fact_1 = c.loop-i.invariant.room; fact_2 = omega (arith, c.loop-i.invariant.place, c.loop-i-test.true, c.requires.fact_4) }

pub overflow_add-at : goal.overflow_add-at
overflow_add-at c = omega (arith, c.loop-i.invariant.place, c.loop-i-test.true, c.requires)

pub loop-i-preserved : goal.loop-i-preserved
loop-i-preserved c =
    let g : length c.args.t.rows ≡ 16 = search length_mapped in
    rw c.put_row.ensures (more_rest c.args.numbers.now c.args.desk c.args.t c.args.j c.args.k g c.requires.fact_2 c.requires.fact_4 c.loop-i.numbers c.loop-i.i c.loop-i.at c.loop-i.invariant c.loop-i-test.true)

pub returns : goal.returns
returns c =
    let g : length c.args.t.rows ≡ 16 = search length_mapped in let all = all_rest c.args.numbers.now c.args.desk c.args.t c.args.j c.args.k g c.requires.fact_2 c.requires.fact_4 c.loop-i.numbers c.loop-i.i c.loop-i.at c.loop-i.invariant c.loop-i-test.false in record { rows = all.0; put = all.1 }
