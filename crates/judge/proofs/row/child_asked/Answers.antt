use mathlib.Core.Path.{◌∙◌, ap}
use Rattle.std.specs.Prelude.{Some}
use Rattle.judge.proofs.Asking.{asked_inside, asked_typed, asked_nothing}
use Rattle.judge.proofs.row.child_asked.Goals as goal

pub returns-in-Some-Always : goal.returns-in-Some-Always
returns-in-Some-Always c = λ shift depth v after t. asked_inside shift c.args.stage v _ (c.step_of.ensures depth v after t) (c.in-Some-Always.is ∙ ap Some c.in-Some-Always.field-0-is)

pub returns-in-Some-Typed : goal.returns-in-Some-Typed
returns-in-Some-Typed c =
    λ shift depth v after t. asked_typed shift c.args.stage v _ (c.step_of.ensures depth v after t) c.member_asked.result (c.in-Some-Typed.is ∙ ap Some c.in-Some-Typed.field-0-is) (c.member_asked.ensures shift c.args.stage v t.tells)

pub returns-in-None : goal.returns-in-None
returns-in-None c = λ shift depth v after t. asked_nothing shift c.args.stage v _ (c.step_of.ensures depth v after t) c.refuse.result c.in-None.is c.refuse.ensures
