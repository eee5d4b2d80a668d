-- `text::is_same` meets its contract. The loop's invariant: the texts are the same if what is left of them is.
use Prim.Native.Nat.{◌≤◌}
use mathlib.Core.Path.{◌≡◌}
use lib.ListN.{length, drop}
use Rattle.rules.specs.Basics.{same}
use Rattle.text.proofs.is_same.Given as goal

abbrev pub invariant-loop-i : goal.invariant-loop-i
invariant-loop-i l = (length l.a ≡ length l.b) × (l.i ≤ length l.a) × (same (drop l.i l.a) (drop l.i l.b) ≡ same l.a l.b)
