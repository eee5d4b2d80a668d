-- `text::digits::value` meets its contract. The loop's invariant: the total is what the digits passed write.
use Prim.Native.Nat.{◌-◌, ◌≤◌}
use mathlib.Core.Path.{◌≡◌}
use lib.ListN.{take, drop}
use Rattle.rules.specs.Basics.{decimal}
use Rattle.text.proofs.digits.value.Given as goal

abbrev pub invariant-loop-k : goal.invariant-loop-k
invariant-loop-k l = (l.k ≤ l.n) × (l.total ≡ decimal (take l.k (drop l.at l.s)))
