-- `text::begins_with` meets its contract. The loop's invariant: the text begins with the prefix if what is left of it begins with what is left of that.
use Prim.Native.Nat.{◌≤◌}
use mathlib.Core.Path.{◌≡◌}
use lib.ListN.{length, drop}
use Rattle.rules.specs.Basics.{begins}
use Rattle.text.proofs.begins_with.Given as goal

abbrev pub invariant-loop-i : goal.invariant-loop-i
invariant-loop-i l = (length l.prefix ≤ length l.t) × (l.i ≤ length l.prefix) × (begins (drop l.i l.prefix) (drop l.i l.t) ≡ begins l.prefix l.t)
