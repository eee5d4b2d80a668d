-- `form::parts::part_end` meets its contract. The loop's invariant: where a part that begins here ends, the one from the start ends too.
use Prim.Native.Nat.{ℕ, ◌-◌, ◌≤◌}
use lib.ListN.{length}
use Rattle.form.specs.Parted.{PartAt}
use Rattle.form.proofs.parts.part_end.Given as goal

abbrev pub invariant-loop-i : goal.invariant-loop-i
invariant-loop-i l = (l.i ≤ length l.t) × ((e : ℕ) → PartAt l.b l.t l.i e → PartAt l.b l.t l.from e)
