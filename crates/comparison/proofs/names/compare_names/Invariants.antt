-- `comparison::names::compare_names` meets its contract.
use Prim.Native.Nat.{◌-◌}
use lib.ListN.{length}
use Rattle.comparison.specs.Meaning.{answer_meant}
use Rattle.comparison.proofs.Parts.{Compared}
use Rattle.comparison.proofs.names.compare_names.Given as goal

abbrev pub invariant-loop-p : goal.invariant-loop-p
invariant-loop-p l = Compared l.s l.t l.a l.b l.depth l.i l.j (answer_meant l.answer)

abbrev pub decreases-loop-p : goal.decreases-loop-p
decreases-loop-p l = length l.s - l.i
