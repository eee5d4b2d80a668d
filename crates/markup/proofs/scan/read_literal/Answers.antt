use Prim.Native.Nat.{◌+◌}
use native.Mathlib.Omega.{arith}
use Rattle.text.proofs.Reading.{literal_more, literal-not, literal-end, good, not, fewer}
use Rattle.markup.proofs.scan.read_literal.Goals as goal

pub loop-b-init : goal.loop-b-init
loop-b-init c = (c.requires, λ k r h. fewer (omega arith) h)

pub returns-in_default : goal.returns-in_default
returns-in_default c = not (c.loop-b.invariant.1 0 _ (literal-not _ _ _ _ c.loop-b-test.true c.in_default.ensures))

pub loop-b-preserved : goal.loop-b-preserved
loop-b-preserved c =
    ((good c.in-Some.ensures).high, λ k r h. fewer (omega arith) (c.loop-b.invariant.1 (1 + k) r (literal_more _ _ _ _ _ k c.loop-b-test.true (good c.in-Some.ensures) h)))

pub returns : goal.returns
returns c = fewer (omega arith) (c.loop-b.invariant.1 0 _ (literal-end _ _ _ _ c.loop-b-test.false c.loop-b.invariant.0))
