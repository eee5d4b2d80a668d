-- `text::is_ascii_block` meets its contract. The loop's invariant: `all` says whether the bytes passed are ASCII.
use Prim.Native.Nat.{◌≤◌, ◌-◌}
use mathlib.Core.Path.{◌≡◌}
use lib.ListN.{take, drop}
use Rattle.rules.specs.Basics.{every}
use Rattle.text.specs.Characters.{is_ascii}
use Rattle.text.proofs.is_ascii_block.Given as goal

abbrev pub invariant-loop-b : goal.invariant-loop-b
invariant-loop-b l = l.all ≡ every is_ascii (take l.b-index l.b-items)
