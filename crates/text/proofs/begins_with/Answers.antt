use mathlib.Core.Path.{sym, ◌∙◌}
use native.Mathlib.Omega.{arith}
use Rattle.text.proofs.Sameness.{begins_shorter, begins_more, begins_differs, begins-end}
use Rattle.text.proofs.begins_with.Goals as goal

pub returns-then-t-prefix : goal.returns-then-t-prefix
returns-then-t-prefix c = begins_shorter _ _ c.if-t-prefix.true

pub returns-then-prefix-i : goal.returns-then-prefix-i
returns-then-prefix-i c =
    sym (begins_differs c.args.prefix.now c.args.t.now _ c.loop-i-test.true (omega arith) c.if-prefix-i.true) ∙ c.loop-i.invariant.2

pub loop-i-preserved : goal.loop-i-preserved
loop-i-preserved c =
    (c.loop-i.invariant.0, omega arith, sym (begins_more c.args.prefix.now c.args.t.now _ c.loop-i-test.true (omega arith) c.if-prefix-i.false) ∙ c.loop-i.invariant.2)

pub returns : goal.returns
returns c = sym (begins-end c.args.prefix.now c.args.t.now _ c.loop-i-test.false) ∙ c.loop-i.invariant.2
