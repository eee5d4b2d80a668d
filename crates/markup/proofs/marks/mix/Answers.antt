use mathlib.Core.Path.{refl, sym, ◌∙◌}
use native.Mathlib.Omega.{arith}
use Rattle.markup.proofs.Marking.{mix_more, mix_end}
use Rattle.markup.proofs.marks.mix.Goals as goal

pub loop-c-init : goal.loop-c-init
loop-c-init c = (omega arith, refl)

pub loop-c-preserved : goal.loop-c-preserved
loop-c-preserved c =
    let n = c.args.name.now in
    let v = c.loop-c.invariant in
    (c.mix_byte-h.ensures.1, rw c.mix_byte-h.ensures.0 (sym (mix_more n _ _ c.loop-c-test.true) ∙ v.1))

pub returns : goal.returns
returns c =
    let v = c.loop-c.invariant in
    (sym (mix_end c.args.name.now _ _ c.loop-c-test.false) ∙ v.1, v.0)
