-- `totals::share::share` meets its contract.
use Rattle.std.proofs.Common.{arith}
use Rattle.totals.proofs.Taking.{at-most_four}
use Rattle.totals.proofs.Shared.{held-few, all-few, part_put}
use Rattle.totals.proofs.share.share.Goals as goal

pub put_rows-held-requires : goal.put_rows-held-requires
put_rows-held-requires c = record { fact_1 = c.requires.fact_1.long; fact_2 = held-few c.args.numbers.now c.requires.fact_2; fact_3 = c.requires.fact_4.few; fact_4 = all-few c.args.numbers.now c.requires.fact_1 c.requires.fact_2 c.args.desk c.requires.fact_3 c.args.t c.requires.fact_4 }

pub offset_bounds-numbers-from : goal.offset_bounds-numbers-from
offset_bounds-numbers-from c = omega (arith, at-most_four c.args.desk, c.counts_from-from.ensures)

pub bounds-numbers-from : goal.bounds-numbers-from
bounds-numbers-from c = omega (arith, at-most_four c.args.desk, c.counts_from-from.ensures)

pub overflow_add-numbers : goal.overflow_add-numbers
overflow_add-numbers c = omega (arith, at-most_four c.args.desk, c.counts_from-from.ensures)

pub offset_bounds-numbers-from-2 : goal.offset_bounds-numbers-from-2
offset_bounds-numbers-from-2 c = omega (arith, at-most_four c.args.desk, c.counts_from-from.ensures)

pub bounds-numbers-from-2 : goal.bounds-numbers-from-2
bounds-numbers-from-2 c = omega (arith, at-most_four c.args.desk, c.counts_from-from.ensures)

pub overflow_add-numbers-2 : goal.overflow_add-numbers-2
overflow_add-numbers-2 c = omega (arith, at-most_four c.args.desk, c.counts_from-from.ensures)

pub offset_bounds-numbers-from-3 : goal.offset_bounds-numbers-from-3
offset_bounds-numbers-from-3 c = omega (arith, at-most_four c.args.desk, c.counts_from-from.ensures)

pub bounds-numbers-from-3 : goal.bounds-numbers-from-3
bounds-numbers-from-3 c = omega (arith, at-most_four c.args.desk, c.counts_from-from.ensures)

pub returns : goal.returns
returns c = rw c.put_rows-held.ensures.put (part_put c.args.numbers.now c.requires.fact_1 c.requires.fact_2 c.args.desk c.requires.fact_3 c.args.t c.requires.fact_4 c.counts_from-from.result c.put_rows-held.result c.counts_from-from.ensures c.put_rows-held.ensures.rows)
