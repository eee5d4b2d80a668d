-- `rigcactus::rigcactus_cut` meets its contract, by a law for each way through it.
use mathlib.Core.Path.{sym, ◌∙◌, ap}
use Prim.Native.Nat.{◌*◌}
use native.Mathlib.Omega.{arith}
use Rattle.rules.proofs.Utf8.{cut_fits}
use Rattle.rigcactus.proofs.Cut.{cut_too_long, cut-not_utf8, cut-accepted}
use Rattle.rigcactus.proofs.rigcactus_cut.Goals as goal

pub returns-then-text-gt-MOST : goal.returns-then-text-gt-MOST
returns-then-text-gt-MOST c = c.number.ensures ∙ cut_too_long _ _ c.if-text-gt-MOST.true

pub returns-then-not-is_utf8 : goal.returns-then-not-is_utf8
returns-then-not-is_utf8 c = c.number-then-not-is_utf8.ensures ∙ cut-not_utf8 _ _ c.if-text-gt-MOST.false (sym c.is_utf8.ensures ∙ c.if-not-is_utf8.true)

pub cut_length-requires : goal.cut_length-requires
cut_length-requires c = sym c.is_utf8.ensures ∙ c.if-not-is_utf8.false

pub overflow_mul-result : goal.overflow_mul-result
overflow_mul-result c = omega (arith, c.cut_length.ensures, (cut_fits c.args.room c.args.text.now).1)

pub returns : goal.returns
returns c = ap (λ n. n * 256) c.cut_length.ensures ∙ cut-accepted _ _ c.if-text-gt-MOST.false (sym c.is_utf8.ensures ∙ c.if-not-is_utf8.false)
