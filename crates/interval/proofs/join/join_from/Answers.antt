use Rattle.std.proofs.Common.{◌≡◌, length, get_or, refl, ◌∙◌, arith}
use Rattle.interval.specs.declared.Interval.{Interval}
use Rattle.interval.proofs.Items.{nowhere, length_mapped, used-ticked}
use Rattle.interval.proofs.Joining.{hull_low, hull_high, join_end, join_past, join_here}
use Rattle.interval.proofs.join.join_from.Goals as goal

pub loop-k-init : goal.loop-k-init
loop-k-init c = (c.requires.fact_3, c.requires.fact_4, refl)

pub high_edge-requires : goal.high_edge-requires
high_edge-requires c = c.loop-k.invariant.1

pub low_edge-requires : goal.low_edge-requires
low_edge-requires c =
    let g : length c.args.s.items ≡ 32 = search length_mapped in
    (used-ticked c.args.s g c.requires.fact_1.fits c.loop-k.k c.loop-k-test.true nowhere c.requires.fact_1.ticked).0

pub returns-then-high_edge-low_edge : goal.returns-then-high_edge-low_edge
returns-then-high_edge-low_edge c =
    let g : length c.args.s.items ≡ 32 = search length_mapped in
    record {
      least = omega arith;
      most = omega (arith, c.loop-k-test);
      low = c.loop-k.invariant.0;
      high = c.loop-k.invariant.1;
      rest = c.loop-k.invariant.2 ∙ join_past c.args.s g c.requires.fact_1.fits c.loop-k.k c.loop-k-test.true nowhere c.loop-k.whole (omega (arith, c.low_edge.ensures, c.high_edge.ensures, c.if-high_edge-low_edge.true));
    }

pub hull-whole-requires : goal.hull-whole-requires
hull-whole-requires c =
    let g : length c.args.s.items ≡ 32 = search length_mapped in
    let t = used-ticked c.args.s g c.requires.fact_1.fits c.loop-k.k c.loop-k-test.true nowhere c.requires.fact_1.ticked in
    record { fact_1 = c.loop-k.invariant.0; fact_2 = c.loop-k.invariant.1; fact_3 = t.0; fact_4 = t.1 }

pub loop-k-preserved : goal.loop-k-preserved
loop-k-preserved c =
    let g : length c.args.s.items ≡ 32 = search length_mapped in
    let v = c.loop-k.whole in
    let w : Interval = get_or c.args.s.items c.loop-k.k nowhere in
    let t = used-ticked c.args.s g c.requires.fact_1.fits c.loop-k.k c.loop-k-test.true nowhere c.requires.fact_1.ticked in (
      rw c.hull-whole.ensures (hull_low v w c.loop-k.invariant.0 c.loop-k.invariant.1 t.0 t.1),
      rw c.hull-whole.ensures (hull_high v w c.loop-k.invariant.0 c.loop-k.invariant.1 t.0 t.1),
      c.loop-k.invariant.2 ∙ rw c.hull-whole.ensures (join_here c.args.s g c.requires.fact_1.fits c.loop-k.k c.loop-k-test.true nowhere v (omega (arith, c.low_edge.ensures, c.high_edge.ensures, c.if-high_edge-low_edge.false))),
    )

pub returns : goal.returns
returns c =
    let g : length c.args.s.items ≡ 32 = search length_mapped in
    let e : c.loop-k.k ≡ c.args.s.count = omega (arith, c.requires.fact_2) in
    record {
      least = c.requires.fact_2;
      most = omega arith;
      low = c.loop-k.invariant.0;
      high = c.loop-k.invariant.1;
      rest = rw e at (c.loop-k.invariant.2 ∙ join_end c.args.s g c.requires.fact_1.fits c.loop-k.k c.loop-k.whole c.loop-k-test.false);
    }
