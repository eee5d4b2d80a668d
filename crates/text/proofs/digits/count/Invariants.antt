-- `text::digits::count` meets its contract. The loop's invariant: the bytes passed are digits.
use Prim.Native.Nat.{◌+◌, ◌-◌, ◌≤◌}
use mathlib.Core.Path.{◌≡◌}
use mathlib.Core.Bool.{true}
use lib.ListN.{length, take, drop}
use Rattle.rules.specs.Basics.{every, is_digit}
use Rattle.text.proofs.digits.count.Given as goal

abbrev pub invariant-loop-n : goal.invariant-loop-n
invariant-loop-n l = (l.n ≤ l.most) × (l.at + l.n ≤ length l.s) × (every is_digit (take l.n (drop l.at l.s)) ≡ true)
