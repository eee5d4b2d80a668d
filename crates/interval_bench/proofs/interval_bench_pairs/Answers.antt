use mathlib.Core.Path.{◌≡◌, refl}
use native.Mathlib.Omega.{arith}
use native.Mathlib.Numerals.{add-one}
use borrow.Author.Tests.{lt-ltb, le-ltb}
use lib.ListN.{length}
use Rattle.rules.specs.Sets.{combine}
use Rattle.interval.proofs.Items.{length_mapped}
use Rattle.interval_bench.specs.Counts.{joined_to, operation_at}
use Rattle.interval_bench.proofs.Joining.{applied-meant, count-meant}
use Rattle.interval_bench.proofs.interval_bench_pairs.Goals as goal

pub returns-then-ticks-lt64 : goal.returns-then-ticks-lt64
returns-then-ticks-lt64 c = rw (lt-ltb (length c.args.ticks.now) 64 c.if-ticks-lt64.true)

pub joined-a-requires : goal.joined-a-requires
joined-a-requires c = record { fact_1 = omega arith; fact_2 = omega (arith, c.if-ticks-lt64.false) }

pub joined-b-requires : goal.joined-b-requires
joined-b-requires c = record { fact_1 = omega arith; fact_2 = omega (arith, c.if-ticks-lt64.false) }

pub loop-k-init : goal.loop-k-init
loop-k-init c = refl

pub operation-requires : goal.operation-requires
operation-requires c = tt

pub combine-count-requires : goal.combine-count-requires
combine-count-requires c = record { fact_1 = c.joined-a.ensures.canonical; fact_2 = c.joined-b.ensures.canonical; fact_3 = omega (arith, c.joined-a.ensures.short, c.joined-b.ensures.short) }

pub loop-k-preserved : goal.loop-k-preserved
loop-k-preserved c =
    let l = c.args.ticks.now in
    let d = joined_to l 0 15 in
    let e = joined_to l 32 15 in
    let o = operation_at c.loop-k.k in
    let g : length c.combine-count.result.items ≡ 32 = search length_mapped in
    let h = applied-meant c.operation.result o c.joined-a.result c.joined-b.result c.combine-count.result d e 16 16 _ c.operation.ensures c.joined-a.ensures c.joined-b.ensures c.combine-count.ensures in
    rw (add-one c.loop-k.k) (count-meant (combine o d e) _ c.combine-count.result g h)

pub returns : goal.returns
returns c =
    let e : c.loop-k.k ≡ c.args.times = omega (arith, c.loop-k-test.false) in
    rw (le-ltb (length c.args.ticks.now) 64 c.if-ticks-lt64.false) (rw e at c.loop-k.invariant)
