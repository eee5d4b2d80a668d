use Rattle.judge.proofs.Together.{all_faults}
use Rattle.datatype.specs.Meaning.{kind_meant}
use Rattle.datatype.specs.Tables.{standing_meant}
use mathlib.Core.Path.{◌∙◌, ap}
use mathlib.Core.Logic.{inl, inr}
use mathlib.Core.Bool.{Bool}
use Rattle.rules.specs.Refusal.{SHAPE, first_of, ◌when◌}
use Rattle.judge.proofs.own.judge_with.Goals as goal

pub returns : goal.returns
returns c =
    λ depth v after t n x.
    rw (c.first-2.ensures, c.first-own.ensures, c.first.ensures, c.refused_if-broken.ensures)
    (all_faults c.args.shift.minutes (standing_meant c.args.standing) (kind_meant c.args.kind) v c.is_broken.result
    (c.attributes_fault-carried.ensures depth v after t n)
    (c.refused_if-missing.ensures ∙ ap (λ (b : Bool). first_of (SHAPE when b)) (c.lacks.ensures _ v.attrs t.tells))
    x.fault
    (elim x.broken [
      | inl h ↦ inl h
      | inr h ↦ inr (c.is_broken.ensures c.args.shift.minutes v.attrs v.kids t.tells x.any h)
    ]))
