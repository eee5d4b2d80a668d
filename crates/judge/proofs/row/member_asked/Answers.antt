use native.Mathlib.Omega.{arith}
use Rattle.judge.proofs.Asking.{asked_member, asked_none}
use Rattle.judge.proofs.row.member_asked.Goals as goal

pub type_at-requires : goal.type_at-requires
type_at-requires c = omega (arith, c.requires.placed 2)

pub returns-in-Some : goal.returns-in-Some
returns-in-Some c = λ shift stage v t. asked_member shift stage v _ c.in-Some.is (c.type_at.ensures v.attrs (t.placed 2 (omega arith)))

pub returns-in-None : goal.returns-in-None
returns-in-None c = λ shift stage v t. asked_none shift stage v _ c.refuse.result c.in-None.is (c.type_at.ensures v.attrs (t.placed 2 (omega arith))) c.refuse.ensures
