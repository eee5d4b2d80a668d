-- `interval_bench::piece` meets its contract.
use mathlib.Core.Path.{refl}
use native.Mathlib.Omega.{arith}
use Rattle.interval_bench.proofs.piece.Goals as goal

pub returns : goal.returns
returns c = record {
  means = rw (c.tick-low.ensures, c.tick-high.ensures) refl;
  low = omega (arith, c.tick-low.ensures);
  high = omega (arith, c.tick-high.ensures);
}
