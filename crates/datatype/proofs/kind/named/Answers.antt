-- `datatype::kind::named` meets its contract.
use mathlib.Core.Path.{sym, ◌∙◌}
use native.Mathlib.Omega.{arith}
use lib.ListN.{drop_of_length-le}
use Rattle.datatype.proofs.Naming.{named_here, named_past}
use Rattle.datatype.proofs.kind.named.Goals as goal

pub returns-then-stands_at : goal.returns-then-stands_at
returns-then-stands_at c = λ v after e all.
    sym (named_here c.args.types.now c.loop-name.name-index _ c.loop-name-test.true _ v after e all (sym c.stands_at.ensures ∙ c.if-stands_at.true)) ∙ c.loop-name.invariant.1 v after e all

pub loop-name-preserved : goal.loop-name-preserved
loop-name-preserved c = (
  omega (arith, c.loop-name-test.true),
  λ v after e all.
      sym (named_past c.args.types.now c.loop-name.name-index _ c.loop-name-test.true _ v after e all (sym c.stands_at.ensures ∙ c.if-stands_at.false)) ∙ c.loop-name.invariant.1 v after e all,
)

pub returns : goal.returns
returns c = λ v after e all. rw (drop_of_length-le c.args.types.now {i = c.loop-name.name-index} (omega (arith, c.loop-name-test.false))) at (c.loop-name.invariant.1 v after e all)
