use native.Mathlib.Omega.{arith}
use Rattle.judge.proofs.Checking.{no_type, some-type}
use Rattle.judge.proofs.check_document.Goals as goal

pub type_at-requires : goal.type_at-requires
type_at-requires c = omega (arith, c.read-tag.ensures.within.0.placed 2)

pub returns-in_default : goal.returns-in_default
returns-in_default c =
    no_type c.args.shift.minutes c.read-tag.result c.root-at.ensures.tells c.read-tag.ensures.tells c.type_at.result c.type_at.ensures c.in_default.is c.refused.result c.refused.ensures

pub returns : goal.returns
returns c =
    some-type c.args.shift.minutes c.read-tag.result c.root-at.ensures.tells c.read-tag.ensures.tells c.type_at.result c.type_at.ensures _ c.in-Some.is c.read-tag.ensures.within.0 c.judge_with-fault.result
    (λ v after x. c.judge_with-fault.ensures 8 v after x (c.time_in-time.ensures v.attrs x.tells).0 (c.judge_content-content.ensures.tells v after x))
