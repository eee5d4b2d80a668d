use mathlib.Core.Path.{sym, ◌∙◌}
use native.Mathlib.Omega.{arith}
use Rattle.form.proofs.Parting.{every-not, every_last, every_more}
use Rattle.form.proofs.parts.are_parts.Goals as goal

pub returns-then-not-passes : goal.returns-then-not-passes
returns-then-not-passes g c = λ p h.
    sym (every-not p c.args.b c.args.t.now _ _ c.part_end-end.ensures (sym (h _ _ c.passes.ensures) ∙ c.if-not-passes.true)) ∙ c.loop-passes.invariant.1 p h

pub returns-then-end-t : goal.returns-then-end-t
returns-then-end-t g c = λ p h.
    sym (every_last p c.args.b c.args.t.now _ _ c.part_end-end.ensures (sym (h _ _ c.passes.ensures) ∙ c.if-not-passes.false) c.if-end-t.true) ∙ c.loop-passes.invariant.1 p h

pub loop-passes-preserved : goal.loop-passes-preserved
loop-passes-preserved g c = (
  omega (arith, c.part_end-end.ensures.high, c.if-end-t.false),
  λ p h.
      sym (every_more p c.args.b c.args.t.now _ _ c.part_end-end.ensures (sym (h _ _ c.passes.ensures) ∙ c.if-not-passes.false) (omega (arith, c.part_end-end.ensures.high, c.if-end-t.false)))
      ∙ c.loop-passes.invariant.1 p h,
)
