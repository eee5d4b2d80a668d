-- `totals::share::put_row` meets its contract.
use Rattle.std.proofs.Common.{arith}
use Rattle.totals.proofs.Sharing.{row_put}
use Rattle.totals.proofs.share.put_row.Goals as goal

pub overflow_mul-numbers : goal.overflow_mul-numbers
overflow_mul-numbers c = omega (arith, c.requires.fact_2)

pub overflow_add-numbers : goal.overflow_add-numbers
overflow_add-numbers c = omega (arith, c.requires.fact_2)

pub overflow_mul-numbers-2 : goal.overflow_mul-numbers-2
overflow_mul-numbers-2 c = omega (arith, c.requires.fact_2)

pub bounds-numbers-k : goal.bounds-numbers-k
bounds-numbers-k c = omega (arith, c.requires.fact_2)

pub overflow_add-numbers-2 : goal.overflow_add-numbers-2
overflow_add-numbers-2 c = omega (arith, c.requires.fact_2)

pub offset_bounds-numbers-k-2 : goal.offset_bounds-numbers-k-2
offset_bounds-numbers-k-2 c = omega (arith, c.requires.fact_2)

pub bounds-numbers-k-2 : goal.bounds-numbers-k-2
bounds-numbers-k-2 c = omega (arith, c.requires.fact_2)

pub overflow_mul-numbers-3 : goal.overflow_mul-numbers-3
overflow_mul-numbers-3 c = omega (arith, c.requires.fact_2)

pub overflow_add-numbers-3 : goal.overflow_add-numbers-3
overflow_add-numbers-3 c = omega (arith, c.requires.fact_2)

pub offset_bounds-numbers-k-3 : goal.offset_bounds-numbers-k-3
offset_bounds-numbers-k-3 c = omega (arith, c.requires.fact_2)

pub bounds-numbers-k-3 : goal.bounds-numbers-k-3
bounds-numbers-k-3 c = omega (arith, c.requires.fact_2)

pub returns : goal.returns
returns c = row_put c.args.numbers.now c.args.k _ _ _ c.requires.fact_1 c.requires.fact_2
