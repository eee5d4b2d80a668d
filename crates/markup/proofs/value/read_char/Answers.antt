-- `markup::value::read_char` meets its contract.
use Rattle.markup.proofs.Characters.{char-outside, char-inside, char-first, char-second}
use Rattle.markup.proofs.value.read_char.Goals as goal

pub returns-in-Some : goal.returns-in-Some
returns-in-Some c = char-outside c.in-Some.ensures

pub returns-in-Some-read_plain : goal.returns-in-Some-read_plain
returns-in-Some-read_plain c = char-inside c.in_default.ensures (char-first _ _ c.in-Some-read_plain.ensures)

pub returns : goal.returns
returns c = char-inside c.in_default.ensures (char-second _ _ c.in_default-read_plain.ensures c.read_reference.ensures)
