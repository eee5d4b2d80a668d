use mathlib.Core.Path.{sym, ◌∙◌}
use Rattle.markup.proofs.Characters.{not_quote, simple_char}
use Rattle.element.proofs.Decoded.{chars-end, chars-next, chars-on}
use Rattle.element.specs.Texts.{no_char_on}
use Rattle.element.proofs.value.next.Goals as goal

pub returns-then-is_simple : goal.returns-then-is_simple
returns-then-is_simple c =
    let e = sym c.is_simple.ensures ∙ c.if-is_simple.true in
    let g = simple_char c.args.s.now c.args.at c.if-at-s.true e in
    record { on = chars-on g; tells = chars-next (not_quote c.args.s.now c.args.at c.if-at-s.true e) g }

pub returns-in-Some : goal.returns-in-Some
returns-in-Some c = record { on = no_char_on; tells = chars-end c.in-Some.ensures }

pub returns : goal.returns
returns c = record { on = chars-on c.read_char.ensures; tells = chars-next c.in_default.ensures c.read_char.ensures }
