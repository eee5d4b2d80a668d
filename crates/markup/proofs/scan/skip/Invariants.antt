-- `markup::scan::skip` meets its contract. The loop's invariant: the bytes before passed.
use Prim.Native.Nat.{◌-◌}
use lib.ListN.{length}
use Rattle.std.specs.Prelude.{ℕ, ◌≤◌, ◌<◌, true, slice_index}
use Rattle.markup.proofs.scan.skip.Given as goal

abbrev pub invariant-loop-i : goal.invariant-loop-i
invariant-loop-i g l = ((l.at ≤ l.i) × (l.i ≤ length l.s)) × ((k : ℕ) → l.at ≤ k → k < l.i → g.F.Fn.post l.passes (slice_index l.s k, tt) true)

abbrev pub decreases-loop-i : goal.decreases-loop-i
decreases-loop-i g l = length l.s - l.i
