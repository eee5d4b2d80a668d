-- `form::parts::is_word` meets its contract. The loop's invariant: the text is one of the words if it is one of those from here on.
use Prim.Native.Nat.{◌-◌, ◌≤◌}
use mathlib.Core.Path.{◌≡◌}
use lib.ListN.{length, drop}
use Rattle.rules.specs.Basics.{exists, same, words}
use Rattle.form.proofs.parts.is_word.Given as goal

abbrev pub invariant-loop-from : goal.invariant-loop-from
invariant-loop-from l = (l.from ≤ length l.list) × (exists (same l.w) (words (drop l.from l.list)) ≡ exists (same l.w) (words l.list))

abbrev pub decreases-loop-from : goal.decreases-loop-from
decreases-loop-from l = length l.list - l.from
