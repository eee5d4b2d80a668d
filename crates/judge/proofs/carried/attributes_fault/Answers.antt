use mathlib.Core.Path.{sym}
use native.Mathlib.Omega.{arith}
use Rattle.rules.specs.Judge.{attribute_faults}
use Rattle.rules.proofs.Precedence.{earlier-none_right}
use Rattle.refusal.specs.Meaning.{fault_of}
use Rattle.element.proofs.Asked.{absent}
use Rattle.datatype.specs.Meaning.{kind_meant}
use Rattle.datatype.specs.Tables.{standing_meant}
use Rattle.judge.proofs.ByNumber.{below, below_more, below_none}
use Rattle.judge.proofs.Strange.{all-judged}
use Rattle.judge.proofs.carried.attributes_fault.Goals as goal
use Rattle.judge.proofs.carried.attributes_fault.Goals.{then-place-ne0, else-place-ne0}

pub loop-n-init : goal.loop-n-init
unfolding below
loop-n-init c = (omega arith, λ l t h. sym (earlier-none_right (fault_of c.others_fault-so_far.result)))

pub attribute_fault-requires : goal.attribute_fault-requires
attribute_fault-requires c =
    let q = c.requires.placed c.loop-n.n in
    record { fact_1 = c.loop-n-test.true; fact_2 = omega (arith, c.if-place-ne0.true); fact_3 = omega (arith, q, c.if-place-ne0.true) }

pub loop-n-preserved : goal.loop-n-preserved
loop-n-preserved c = (
  omega (arith, c.loop-n-test.true),
  λ l t h.
      let n = c.loop-n.n in
      let a = c.args in
      let f = attribute_faults a.shift.minutes (standing_meant a.standing) (kind_meant a.kind) in
      let at = t.placed n c.loop-n-test.true in
      let o = fault_of c.others_fault-so_far.result in
      let i = c.loop-n.invariant.1 l t h in
      elim c.if-place-ne0.branch [
        | then-place-ne0 w ↦ rw w.so_far-is (below_more f l n o i (w.attribute_fault.ensures l at h) w.first-so_far.ensures)
        | else-place-ne0 w ↦ rw w.so_far-is (below_none f l n o i (absent at w.if-place-ne0.false))
      ],
)

pub returns : goal.returns
returns c = λ d v after t h.
    let a = c.args in
    all-judged a.shift.minutes (standing_meant a.standing) (kind_meant a.kind) v.attrs t.distinct
    (omega (arith, c.loop-n-test.false, c.loop-n.invariant.0)) (c.others_fault-so_far.ensures v.attrs t.others t.namespaces) (c.loop-n.invariant.1 v.attrs t.tells h)
