use Rattle.rules.proofs.Utf8.{cut_all}
use mathlib.Core.Path.{◌≡◌, refl, sym, ◌∙◌}
use native.Mathlib.Omega.{arith}
use Rattle.rules.specs.Utf8.{longest}
use Rattle.text.proofs.Cutting.{cut-from, longest_boundary, longest-tail}
use Rattle.text.proofs.cut_length.Goals as goal

pub returns-then-s-room : goal.returns-then-s-room
returns-then-s-room c = sym (cut_all _ _ c.if-s-room.true c.requires)

pub loop-n-init : goal.loop-n-init
loop-n-init c = (omega arith, cut-from _ _ c.if-s-room.false)

pub returns-then-not-is_tail : goal.returns-then-not-is_tail
returns-then-not-is_tail c = sym (c.loop-n.invariant.1 ∙ longest_boundary _ _ c.requires c.loop-n.invariant.0 (sym c.is_tail.ensures ∙ c.if-not-is_tail.true))

pub loop-n-preserved : goal.loop-n-preserved
loop-n-preserved c = (omega arith, c.loop-n.invariant.1 ∙ longest-tail _ _ c.requires c.loop-n-test.true c.loop-n.invariant.0 (sym c.is_tail.ensures ∙ c.if-not-is_tail.false))

pub returns : goal.returns
unfolding longest
returns c = let e : c.loop-n.n ≡ 0 = omega arith in sym (c.loop-n.invariant.1 ∙ rw e refl)
