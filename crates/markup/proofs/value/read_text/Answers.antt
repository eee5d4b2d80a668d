use native.Mathlib.Omega.{arith}
use mathlib.Core.Path.{sym}
use Rattle.text.proofs.Reading.{answer, good}
use Rattle.std.specs.Prelude.{None}
use Rattle.markup.specs.Values.{ReadsText}
use Rattle.markup.proofs.Characters.{char_good, char-none, text-end, text-not, on_none, on_more}
use Rattle.markup.proofs.value.read_text.Goals as goal

pub loop-end-init : goal.loop-end-init
loop-end-init c = on_none _ _ c.requires

pub skip_simple-j-requires : goal.skip_simple-j-requires
skip_simple-j-requires c = c.loop-end.invariant.high

pub read_byte-requires : goal.read_byte-requires
read_byte-requires c = c.skip_simple-j.ensures.high

pub returns-in-Some : goal.returns-in-Some
returns-in-Some c = c.loop-end.invariant.on _ (c.skip_simple-j.ensures.on _ (text-end (good c.in-Some.ensures)))

pub read_char-requires : goal.read_char-requires
read_char-requires c = c.skip_simple-j.ensures.high

pub returns-in_err-end : goal.returns-in_err-end
returns-in_err-end c =
    let no : ReadsText c.args.s.now c.args.at None = c.loop-end.invariant.on _ (c.skip_simple-j.ensures.on _ (text-not c.in_default.ensures (char-none c.in_err-end.ensures))) in
    λ f h. answer (sym c.from_residual.ensures) (no f h)

pub loop-end-smaller : goal.loop-end-smaller
loop-end-smaller c = let g = char_good c.in_ok-end.ensures in omega (arith, c.skip_simple-j.ensures.low, g.low, g.high)

pub loop-end-preserved : goal.loop-end-preserved
loop-end-preserved c = on_more c.loop-end.invariant c.skip_simple-j.ensures c.in_default.ensures (char_good c.in_ok-end.ensures)
