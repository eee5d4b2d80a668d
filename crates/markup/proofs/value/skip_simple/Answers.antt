use mathlib.Core.Path.{sym, ◌∙◌}
use native.Mathlib.Omega.{arith}
use Rattle.markup.proofs.Characters.{on_none, on_simple}
use Rattle.markup.proofs.value.skip_simple.Goals as goal

pub loop-i-init : goal.loop-i-init
loop-i-init c = on_none _ _ c.requires

pub returns-then-not-is_simple : goal.returns-then-not-is_simple
returns-then-not-is_simple c = c.loop-i.invariant

pub loop-i-smaller : goal.loop-i-smaller
loop-i-smaller c = omega arith

pub loop-i-preserved : goal.loop-i-preserved
loop-i-preserved c =
    on_simple _ _ c.loop-i-test.true (sym c.is_simple.ensures ∙ c.if-not-is_simple.false) c.loop-i.invariant

pub returns : goal.returns
returns c = c.loop-i.invariant
