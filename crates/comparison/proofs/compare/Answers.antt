-- `comparison::compare` meets its contract.
use borrow.Author.Rules.{rules}
use Rattle.comparison.proofs.Answers.{either_test}
use Rattle.comparison.proofs.SameKinds.{same_kind, other_kind}
use Rattle.comparison.proofs.Types.{types_differ, types_same}
use Rattle.comparison.proofs.compare.Goals as goal

pub returns-then-ne : goal.returns-then-ne
returns-then-ne c = λ v w x y. types_differ c.args.shift.minutes v w x.kind (other_kind w.attrs c.args.a.kind c.args.b.kind y.kind (search rules))

pub returns : goal.returns
returns c = λ v w x y.
    types_same c.args.shift.minutes v w x.kind (same_kind w.attrs c.args.a.kind c.args.b.kind y.kind (search rules))
    (either_test (c.has.ensures _ v.attrs x.tag.tells) (c.has-2.ensures _ w.attrs y.tag.tells))
    (c.compare_kind.ensures v w x.after y.after x.tag y.tag) c.unknown_if.ensures
