use mathlib.Core.Path.{sym, ◌∙◌}
use native.Mathlib.Omega.{arith}
use Rattle.text.proofs.Following.{skips_none, skips_block}
use Rattle.text.proofs.skip_ascii_blocks.Goals as goal

pub loop-i-init : goal.loop-i-init
loop-i-init c = skips_none _ _ c.requires.fact_1

pub returns-then-not-is_ascii_block : goal.returns-then-not-is_ascii_block
returns-then-not-is_ascii_block c = c.loop-i.invariant

pub loop-i-preserved : goal.loop-i-preserved
loop-i-preserved c = skips_block _ _ _ _ c.loop-i.invariant (omega (arith, c.loop-i.invariant.high)) (sym c.is_ascii_block.ensures ∙ c.if-not-is_ascii_block.false)

pub returns : goal.returns
returns c = c.loop-i.invariant
