-- `text::words::stands_at` meets its contract. The loop's invariant: the text stands there if what is left of it stands as far on.
use Prim.Native.Nat.{◌+◌, ◌-◌, ◌≤◌}
use mathlib.Core.Path.{◌≡◌}
use lib.ListN.{length, drop}
use Rattle.rules.specs.Basics.{begins}
use Rattle.text.proofs.words.stands_at.Given as goal

abbrev pub invariant-loop-k : goal.invariant-loop-k
invariant-loop-k l = (length l.t ≤ length l.s - l.at) × (l.k ≤ length l.t) × (begins (drop l.k l.t) (drop (l.at + l.k) l.s) ≡ begins l.t (drop l.at l.s))

abbrev pub decreases-loop-k : goal.decreases-loop-k
decreases-loop-k l = length l.t - l.k
