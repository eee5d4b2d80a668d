use mathlib.Core.Path.{sym, ◌∙◌}
use native.Mathlib.Omega.{arith}
use Rattle.datatype.specs.Meaning.{kind_meant}
use Rattle.judge.proofs.OwnColumns.{own_numbers, own_end, own_found, own_passed, own_told, told}
use Rattle.judge.proofs.carried.has_own.Goals as goal

pub loop-n-init : goal.loop-n-init
loop-n-init c = (omega arith, λ s l t. own_numbers (kind_meant c.args.kind) l)

pub returns-then-is_some-place : goal.returns-then-is_some-place
returns-then-is_some-place c = λ s l t.
    let n = c.loop-n.n in
    let k = kind_meant c.args.kind in
    let h = c.loop-n-test.true in
    let e = own_told k l n c.own_column.ensures (c.is_some.ensures ∙ told _) (t.placed n h) c.if-is_some-place.true in
    sym (own_found k l n h e) ∙ c.loop-n.invariant.1 s l t

pub loop-n-preserved : goal.loop-n-preserved
loop-n-preserved c = (
  omega (arith, c.loop-n-test.true),
  λ s l t.
      let n = c.loop-n.n in
      let k = kind_meant c.args.kind in
      let h = c.loop-n-test.true in
      let e = own_told k l n c.own_column.ensures (c.is_some.ensures ∙ told _) (t.placed n h) c.if-is_some-place.false in
      sym (own_passed k l n h e) ∙ c.loop-n.invariant.1 s l t,
)

pub returns : goal.returns
returns c = λ s l t. sym (own_end (kind_meant c.args.kind) l c.loop-n.n c.loop-n-test.false) ∙ c.loop-n.invariant.1 s l t
