-- `text::digits::read` meets its contract. The loop's invariant: the bytes passed are digits, and the total is what they write.
use Rattle.rules.specs.Basics.{every, is_digit, decimal}
use lib.ListN.{take, drop}
use mathlib.Core.Bool.{true}
use mathlib.Core.Path.{◌≡◌}
use Prim.Native.Nat.{◌-◌, ◌≤◌}
use Rattle.text.proofs.digits.read.Given as goal

abbrev pub invariant-loop-k : goal.invariant-loop-k
invariant-loop-k l = (l.k ≤ l.n) × (every is_digit (take l.k (drop l.at l.s)) ≡ true) × (l.total ≡ decimal (take l.k (drop l.at l.s)))
