use mathlib.Core.Path.{◌≡◌, refl, ◌∙◌, ap}
use native.Mathlib.Omega.{arith}
use Prim.Native.Nat.{ℕ}
use lib.ListN.{take, drop}
use Rattle.rules.specs.Basics.{every}
use Rattle.text.specs.Characters.{is_ascii}
use Rattle.text.proofs.Following.{every_next, every_whole}
use Rattle.text.proofs.is_ascii_block.Goals as goal

pub loop-b-init : goal.loop-b-init
unfolding every
loop-b-init c = refl

pub loop-b-preserved : goal.loop-b-preserved
loop-b-preserved c = rw c.loop-b.invariant (every_next is_ascii _ _ c.loop-b-test.true)

pub returns : goal.returns
returns c = c.loop-b.invariant ∙ every_whole is_ascii _ _ c.loop-b-test.false ∙ ap (λ (n : ℕ). every is_ascii (take n (drop c.args.at c.args.s.now))) (omega arith)
