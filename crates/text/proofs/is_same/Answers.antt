use mathlib.Core.Path.{sym, ◌∙◌}
use native.Mathlib.Omega.{arith}
use Rattle.text.proofs.Sameness.{same_lengths, same_more, same_differs, same_end}
use Rattle.text.proofs.is_same.Goals as goal

pub returns-then-a-b : goal.returns-then-a-b
returns-then-a-b c = same_lengths _ _ c.if-a-b.true

pub returns-then-a-i : goal.returns-then-a-i
returns-then-a-i c =
    sym (same_differs c.args.a.now c.args.b.now _ c.loop-i-test.true (omega arith) c.if-a-i.true) ∙ c.loop-i.invariant.2

pub loop-i-preserved : goal.loop-i-preserved
loop-i-preserved c =
    (c.loop-i.invariant.0, omega arith, sym (same_more c.args.a.now c.args.b.now _ c.loop-i-test.true (omega arith) c.if-a-i.false) ∙ c.loop-i.invariant.2)

pub returns : goal.returns
returns c =
    sym (same_end c.args.a.now c.args.b.now _ c.loop-i-test.false (omega arith)) ∙ c.loop-i.invariant.2
