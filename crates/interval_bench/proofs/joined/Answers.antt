use Prim.Native.Nat.{◌+◌, ◌*◌}
use mathlib.Core.Path.{◌≡◌}
use native.Mathlib.Omega.{arith}
use Rattle.interval_bench.proofs.Joining.{joined-first, joined_more}
use Rattle.interval_bench.proofs.joined.Goals as goal

pub single-s-requires : goal.single-s-requires
single-s-requires c = record { fact_1 = c.piece.ensures.low; fact_2 = c.piece.ensures.high }

pub loop-k-init : goal.loop-k-init
loop-k-init c = joined-first c.args.ticks.now c.args.from c.piece.result c.single-s.result c.piece.ensures c.single-s.ensures

pub with_interval-s-requires : goal.with_interval-s-requires
with_interval-s-requires c = record {
  fact_1 = c.loop-k.invariant.canonical;
  fact_2 = omega (arith, c.loop-k.invariant.short, c.requires.fact_1, c.loop-k-test.true);
  fact_3 = c.piece-in-loop-k.ensures.low;
  fact_4 = c.piece-in-loop-k.ensures.high;
}

pub loop-k-preserved : goal.loop-k-preserved
loop-k-preserved c =
    let a = c.args in
    let l = c.loop-k in
    let e : a.from + 2 * (l.k + 1) ≡ a.from + (l.k + 1) + (l.k + 1) = omega arith in
    joined_more a.ticks.now a.from l.k l.s c.with_interval-s.result c.piece-in-loop-k.result l.invariant (rw e at c.piece-in-loop-k.ensures) c.with_interval-s.ensures

pub returns : goal.returns
returns c = let e : c.loop-k.k ≡ c.args.last = omega (arith, c.loop-k-test.false) in rw e at c.loop-k.invariant
