-- `judge::carried::attribute_fault` meets its contract.
use mathlib.Core.Path.{sym, ◌∙◌, ap}
use Rattle.datatype.specs.Meaning.{kind_meant}
use Rattle.datatype.specs.Tables.{standing_meant, form_meant}
use Rattle.judge.proofs.Carrying.{shape_at, form-at, time-at}
use Rattle.judge.proofs.carried.attribute_fault.Goals as goal

pub returns-then-n-eq-VALUE : goal.returns-then-n-eq-VALUE
returns-then-n-eq-VALUE c = λ l h t.
    let a = c.args in
    let z = c.in-Ts.is in
    rw (z, c.if-n-eq-VALUE.true) (t (ap kind_meant z) ∙ time-at a.shift.minutes (standing_meant a.standing) l)

pub returns-in_default-column_of : goal.returns-in_default-column_of
returns-in_default-column_of c = λ l h t.
    let a = c.args in
    let p = c.requires in
    shape_at a.shift.minutes (standing_meant a.standing) (kind_meant a.kind) a.n p.fact_1 l h p.fact_2
    (sym c.column_of.ensures ∙ ap form_meant c.in_default-column_of.is)

pub returns : goal.returns
returns c = λ l h t.
    let a = c.args in
    let p = c.requires in
    form-at a.shift.minutes (standing_meant a.standing) (kind_meant a.kind) a.n p.fact_1 l h p.fact_2
    (sym c.column_of.ensures ∙ ap form_meant c.in-Some.is) c.text_fault.ensures
