-- `judge::judge_content` meets its contract. The depth falls from an element to its children.
use Prim.Native.Nat.{◌-◌}
use lib.ListN.{length}
use Rattle.datatype.specs.Meaning.{kind_meant}
use Rattle.element.proofs.Walks.{Walked}
use Rattle.judge.proofs.Walking.{Judges}
use Rattle.judge.proofs.+judge_content.Given as goal

abbrev pub decreases-judge_content : goal.decreases-judge_content
decreases-judge_content l = l.depth

abbrev pub invariant-loop-i : goal.invariant-loop-i
invariant-loop-i l = Walked l.s l.tag l.depth l.row.end (Judges l.shift.minutes (kind_meant l.kind) l.row)

abbrev pub decreases-loop-i : goal.decreases-loop-i
decreases-loop-i l = length l.s - l.row.end
