use Prim.Native.Nat.{◌+◌}
use mathlib.Core.Path.{◌≡◌, refl, sym, ◌∙◌}
use native.Mathlib.Nat.{add-zero}
use native.Mathlib.Omega.{arith}
use lib.ListN.{length-drop}
use Rattle.text.proofs.Sameness.{begins_shorter}
use Rattle.text.proofs.Standing.{words_same, words_differ, rests}
use Rattle.text.proofs.words.stands_at.Goals as goal

pub returns-then-s-at : goal.returns-then-s-at
returns-then-s-at c = begins_shorter _ _ (rw length-drop c.if-s-at.true)

pub loop-k-init : goal.loop-k-init
loop-k-init c = (c.if-s-at.false, omega arith, rw (add-zero c.args.at) refl)

pub returns-then-four : goal.returns-then-four
returns-then-four c =
    sym
    (words_differ 4 c.args.t.now c.args.s.now c.loop-k.k (c.args.at + c.loop-k.k) (omega arith) (omega arith)
    (λ i. omega (arith, c.shared_slice_known-2-1.given i)) (λ i. omega (arith, c.shared_slice_known-1.given i))
    (λ e. c.if-four.true (c.four.ensures.0 ∙ sym e ∙ sym c.four-in-loop-k.ensures.0)))
    ∙ c.loop-k.invariant.2

pub loop-k-preserved : goal.loop-k-preserved
loop-k-preserved c =
    let z : c.args.at + (c.loop-k.k + 4) ≡ c.args.at + c.loop-k.k + 4 = omega arith in
    let same = sym c.four-in-loop-k.ensures.0 ∙ sym c.if-four.false ∙ c.four.ensures.0 in
    let w = words_same 4 c.args.t.now c.args.s.now c.loop-k.k (c.args.at + c.loop-k.k) (omega arith) (omega arith)
    (λ i. omega (arith, c.shared_slice_known-2-1.given i)) (λ i. omega (arith, c.shared_slice_known-1.given i)) same in
    (c.loop-k.invariant.0, omega arith, rw z (sym w ∙ c.loop-k.invariant.2))

pub returns : goal.returns
returns c =
    c.begins_with.ensures ∙ rests c.args.t.now c.args.s.now c.loop-k.k (c.args.at + c.loop-k.k) ∙ c.loop-k.invariant.2
