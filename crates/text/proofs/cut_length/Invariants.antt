-- `text::cut_length` meets its contract. The loop's invariant: the cut is the longest beginning of n bytes at most.
use Prim.Native.Nat.{◌<◌}
use mathlib.Core.Path.{◌≡◌}
use lib.ListN.{length}
use Rattle.rules.specs.Utf8.{longest, cut_length}
use Rattle.text.proofs.cut_length.Given as goal

abbrev pub invariant-loop-n : goal.invariant-loop-n
invariant-loop-n l = (l.n < length l.s) × (cut_length l.room l.s ≡ longest l.n l.s)
