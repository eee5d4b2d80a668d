use Rattle.std.proofs.Common.{◌+◌, ◌*◌, refl, arith}
use Rattle.totals.proofs.Rows.{length_mapped}
use Rattle.totals.proofs.Owners.{bits_at}
use Rattle.totals.proofs.Taking.{begin, skip, more, all_taken, too_many, at-most_four, counts_taken}
use Rattle.totals.proofs.part.part.Goals as goal

pub offset_bounds-numbers-from : goal.offset_bounds-numbers-from
offset_bounds-numbers-from c = omega (arith, at-most_four c.args.desk, c.counts_from-from.ensures)

pub bounds-numbers-from : goal.bounds-numbers-from
bounds-numbers-from c = omega (arith, at-most_four c.args.desk, c.counts_from-from.ensures)

pub overflow_add-t : goal.overflow_add-t
overflow_add-t c = omega (arith, at-most_four c.args.desk, c.counts_from-from.ensures)

pub offset_bounds-numbers-from-2 : goal.offset_bounds-numbers-from-2
offset_bounds-numbers-from-2 c = omega (arith, at-most_four c.args.desk, c.counts_from-from.ensures)

pub bounds-numbers-from-2 : goal.bounds-numbers-from-2
bounds-numbers-from-2 c = omega (arith, at-most_four c.args.desk, c.counts_from-from.ensures)

pub overflow_add-t-2 : goal.overflow_add-t-2
overflow_add-t-2 c = omega (arith, at-most_four c.args.desk, c.counts_from-from.ensures)

pub offset_bounds-numbers-from-3 : goal.offset_bounds-numbers-from-3
offset_bounds-numbers-from-3 c = omega (arith, at-most_four c.args.desk, c.counts_from-from.ensures)

pub bounds-numbers-from-3 : goal.bounds-numbers-from-3
bounds-numbers-from-3 c = omega (arith, at-most_four c.args.desk, c.counts_from-from.ensures)

pub loop-k-init : goal.loop-k-init
loop-k-init c = begin c.args.numbers.now c.args.desk _ _ (search length_mapped) refl (counts_taken c.args.numbers.now c.args.desk c.counts_from-from.result c.counts_from-from.ensures)

pub overflow_mul-k : goal.overflow_mul-k
overflow_mul-k c = omega (arith, c.loop-k-test.true, c.requires.fact_2)

pub overflow_add-k : goal.overflow_add-k
overflow_add-k c = omega (arith, c.loop-k-test.true, c.requires.fact_2)

pub offset_bounds-numbers-k : goal.offset_bounds-numbers-k
offset_bounds-numbers-k c = omega (arith, c.loop-k-test.true, c.requires.fact_2)

pub bounds-numbers-k : goal.bounds-numbers-k
bounds-numbers-k c = omega (arith, c.loop-k-test.true, c.requires.fact_2)

pub loop-k-preserved-then-numbers-k : goal.loop-k-preserved-then-numbers-k
loop-k-preserved-then-numbers-k c = skip c.args.numbers.now c.args.desk _ c.loop-k.t c.loop-k.k c.loop-k.invariant c.loop-k-test.true c.if-numbers-k.true

pub returns-then-t-eq-ROWS : goal.returns-then-t-eq-ROWS
returns-then-t-eq-ROWS c = too_many c.args.numbers.now c.args.desk _ c.loop-k.t c.loop-k.k c.loop-k.invariant c.requires.fact_2 refl c.loop-k-test.true c.if-numbers-k.false c.if-t-eq-ROWS.true

pub overflow_mul-t : goal.overflow_mul-t
overflow_mul-t c = omega (arith, c.loop-k-test.true, c.requires.fact_2)

pub overflow_add-t-in-loop-k : goal.overflow_add-t-in-loop-k
overflow_add-t-in-loop-k c = omega (arith, c.loop-k-test.true, c.requires.fact_2)

pub offset_bounds-numbers-k-in-loop-k : goal.offset_bounds-numbers-k-in-loop-k
offset_bounds-numbers-k-in-loop-k c = omega (arith, c.loop-k-test.true, c.requires.fact_2)

pub bounds-numbers-k-in-loop-k : goal.bounds-numbers-k-in-loop-k
bounds-numbers-k-in-loop-k c = omega (arith, c.loop-k-test.true, c.requires.fact_2)

pub overflow_mul-t-in-loop-k : goal.overflow_mul-t-in-loop-k
overflow_mul-t-in-loop-k c = omega (arith, c.loop-k-test.true, c.requires.fact_2)

pub overflow_add-t-in-loop-k-2 : goal.overflow_add-t-in-loop-k-2
overflow_add-t-in-loop-k-2 c = omega (arith, c.loop-k-test.true, c.requires.fact_2)

pub offset_bounds-numbers-k-in-loop-k-2 : goal.offset_bounds-numbers-k-in-loop-k-2
offset_bounds-numbers-k-in-loop-k-2 c = omega (arith, c.loop-k-test.true, c.requires.fact_2)

pub bounds-numbers-k-in-loop-k-2 : goal.bounds-numbers-k-in-loop-k-2
bounds-numbers-k-in-loop-k-2 c = omega (arith, c.loop-k-test.true, c.requires.fact_2)

pub offset_bounds-t-t : goal.offset_bounds-t-t
offset_bounds-t-t c = omega (arith, c.if-t-eq-ROWS.false, c.loop-k.invariant.few)

pub bounds-t-t : goal.bounds-t-t
bounds-t-t c = omega (arith, c.if-t-eq-ROWS.false, c.loop-k.invariant.few)

pub overflow_add-t-in-loop-k-3 : goal.overflow_add-t-in-loop-k-3
overflow_add-t-in-loop-k-3 c = omega (arith, c.if-t-eq-ROWS.false, c.loop-k.invariant.few)

pub loop-k-preserved : goal.loop-k-preserved
loop-k-preserved c = more c.args.numbers.now c.args.desk _ c.loop-k.t c.loop-k.k c.loop-k.invariant c.loop-k-test.true c.if-numbers-k.false (omega (arith, c.if-t-eq-ROWS.false, c.loop-k.invariant.few)) (bits_at c.args.numbers.now c.requires.fact_1.bits (9 + 3 * c.loop-k.k))

pub returns : goal.returns
returns c = all_taken c.args.numbers.now c.args.desk _ c.loop-k.t c.loop-k.k c.loop-k.invariant c.requires.fact_2 refl c.loop-k-test.false
