-- `markup::marks::read_by_table` meets its contract. The loop's invariant: the names before are different, and the table has their marks.
use Prim.Native.Nat.{◌-◌}
use mathlib.Core.Path.{◌≡◌}
use lib.ListN.{length}
use Rattle.markup.proofs.Marking.{HasMark}
use Rattle.markup.proofs.Begun.{Begun}
use Rattle.markup.proofs.marks.read_by_table.Given as goal

abbrev pub invariant-loop-a : goal.invariant-loop-a
invariant-loop-a l = (length l.table ≡ 3_072) × Begun (HasMark l.table) l.s l.at l.i

abbrev pub decreases-loop-a : goal.decreases-loop-a
decreases-loop-a l = length l.s - l.i
