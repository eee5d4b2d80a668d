use Rattle.std.proofs.Common.{◌≡◌, length, sym, arith}
use Rattle.interval.specs.Meaning.{used}
use Rattle.interval.proofs.Items.{nowhere, length_mapped, ticked-at, used-short, used-length}
use Rattle.interval.proofs.Joining.{passed-end, passed_more, passed_here}
use Rattle.interval.proofs.join.count_before.Goals as goal

pub high_edge-requires : goal.high_edge-requires
high_edge-requires c = (ticked-at (used c.args.s) c.loop-k.k nowhere c.requires.fact_1.ticked c.loop-k-test.true).1

pub returns-then-from-high_edge : goal.returns-then-from-high_edge
returns-then-from-high_edge c =
    record {
      most = omega (arith, used-short c.args.s, c.loop-k-test.true);
      rest = passed_here (used c.args.s) c.loop-k.k c.loop-k-test.true nowhere c.args.v (omega (arith, c.low_edge-from.ensures, c.high_edge.ensures, c.if-from-high_edge.true)) (c.loop-k.invariant c.args.v (sym c.low_edge-from.ensures));
    }

pub loop-k-preserved : goal.loop-k-preserved
loop-k-preserved c =
    λ v e. passed_more (used c.args.s) c.loop-k.k c.loop-k-test.true nowhere v (omega (arith, e, c.high_edge.ensures, c.if-from-high_edge.false)) (c.loop-k.invariant v e)

pub returns : goal.returns
returns c =
    let g : length c.args.s.items ≡ 32 = search length_mapped in
    let e : c.loop-k.k ≡ c.args.s.count = omega (arith, used-length c.args.s g c.requires.fact_1.fits) in
    record { most = omega arith; rest = rw e at (passed-end (used c.args.s) c.loop-k.k c.args.v c.loop-k-test.false (c.loop-k.invariant c.args.v (sym c.low_edge-from.ensures))) }
