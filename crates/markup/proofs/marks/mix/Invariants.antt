-- `markup::marks::mix` meets its contract. The loop's invariant: the number made of what is left, from here on, is the name's.
use Prim.Native.Nat.{◌-◌, ◌≤◌, ◌<◌}
use mathlib.Core.Path.{◌≡◌}
use lib.ListN.{length, drop}
use Rattle.markup.specs.Marks.{mix_of}
use Rattle.markup.proofs.marks.mix.Given as goal

abbrev pub invariant-loop-c : goal.invariant-loop-c
invariant-loop-c l = (l.h < 1_048_576) × (mix_of l.h (drop l.c-index l.name) ≡ mix_of 0 l.name)
