use Rattle.std.proofs.Common.{◌≡◌, ◌*◌, ◌<◌, length, refl, ◌∙◌, arith, length-set}
use Rattle.interval.proofs.Items.{length_mapped}
use Rattle.interval.proofs.Drawing.{edged-length, edge-below, edge-next, ticked_more, edges_more}
use Rattle.interval.proofs.merge.from_edges.Goals as goal

pub loop-k-init : goal.loop-k-init
loop-k-init c =
    let g : length c.empty-s.result.items ≡ 32 = search length_mapped in
    (omega arith, g, tt, refl)

pub overflow_mul-k : goal.overflow_mul-k
overflow_mul-k c = omega (arith, c.requires.fact_2)

pub overflow_mul-k-in-loop-k : goal.overflow_mul-k-in-loop-k
overflow_mul-k-in-loop-k c = omega (arith, c.requires.fact_2)

pub offset_bounds-e-k : goal.offset_bounds-e-k
offset_bounds-e-k c = omega (arith, c.requires.fact_2)

pub bounds-e-k : goal.bounds-e-k
bounds-e-k c = omega (arith, c.requires.fact_2)

pub low_bound-low-requires : goal.low_bound-low-requires
low_bound-low-requires c = edge-below c.args.n c.args.e.now c.requires.fact_1 (2 * c.loop-k.k) (omega arith)

pub overflow_add-k : goal.overflow_add-k
overflow_add-k c = omega (arith, c.requires.fact_2)

pub offset_bounds-e-k-in-loop-k : goal.offset_bounds-e-k-in-loop-k
offset_bounds-e-k-in-loop-k c = omega (arith, c.requires.fact_2)

pub bounds-e-k-in-loop-k : goal.bounds-e-k-in-loop-k
bounds-e-k-in-loop-k c = omega (arith, c.requires.fact_2)

pub high_bound-high-requires : goal.high_bound-high-requires
high_bound-high-requires c =
    let d = edge-next c.args.n c.args.e.now c.requires.fact_1 c.requires.fact_2 (2 * c.loop-k.k) (omega arith) in
    (omega (arith, d.0), d.1)

pub offset_bounds-s-k : goal.offset_bounds-s-k
offset_bounds-s-k c = omega (arith, c.requires.fact_2)

pub bounds-s-k : goal.bounds-s-k
bounds-s-k c = omega (arith, c.requires.fact_2)

pub loop-k-preserved : goal.loop-k-preserved
loop-k-preserved c =
    let l = c.loop-k in
    let lt : l.k < 32 = omega (arith, c.requires.fact_2, c.loop-k-test.true) in
    let g : length c.args.e.now ≡ 65 = edged-length c.args.n c.args.e.now c.requires.fact_1 c.requires.fact_2 in (
      omega (arith, c.loop-k-test.true),
      length-set l.s.items l.k _ ∙ l.invariant.1,
      ticked_more c.args.e.now l.s.items l.k _ l.invariant.1 g lt l.invariant.2 c.low_bound-low.ensures.ticked c.high_bound-high.ensures.ticked,
      edges_more c.args.e.now l.s.items l.k _ l.invariant.1 g lt l.invariant.3 c.low_bound-low.ensures.edge c.high_bound-high.ensures.edge,
    )

pub returns : goal.returns
returns c =
    let e : c.loop-k.k ≡ c.div_ceil-count.result = omega arith in
    record { ticked = rw e at c.loop-k.invariant.2; edges_are = rw e at c.loop-k.invariant.3; fewest = omega (arith, c.div_ceil-count.ensures); most = omega (arith, c.div_ceil-count.ensures) }
