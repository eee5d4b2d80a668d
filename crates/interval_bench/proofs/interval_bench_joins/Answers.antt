use mathlib.Core.Path.{◌≡◌, refl}
use native.Mathlib.Omega.{arith}
use native.Mathlib.Numerals.{add-one}
use borrow.Author.Tests.{lt-ltb, le-ltb}
use lib.ListN.{length}
use Rattle.interval.proofs.Items.{length_mapped}
use Rattle.interval_bench.specs.Counts.{joined_to}
use Rattle.interval_bench.proofs.Joining.{count-meant}
use Rattle.interval_bench.proofs.interval_bench_joins.Goals as goal

pub returns-then-ticks-lt64 : goal.returns-then-ticks-lt64
returns-then-ticks-lt64 c = rw (lt-ltb (length c.args.ticks.now) 64 c.if-ticks-lt64.true)

pub loop-init : goal.loop-init
loop-init c = refl

pub joined-count-requires : goal.joined-count-requires
joined-count-requires c = record { fact_1 = omega arith; fact_2 = omega (arith, c.if-ticks-lt64.false) }

pub loop-preserved : goal.loop-preserved
loop-preserved c =
    let g : length c.joined-count.result.items ≡ 32 = search length_mapped in
    rw (add-one c.loop.counter) (count-meant (joined_to c.args.ticks.now 0 31) 32 c.joined-count.result g c.joined-count.ensures)

pub returns : goal.returns
returns c =
    let e : c.loop.counter ≡ c.args.times = omega (arith, c.loop-test.false) in
    rw (le-ltb (length c.args.ticks.now) 64 c.if-ticks-lt64.false) (rw e at c.loop.invariant)
