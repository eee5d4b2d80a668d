-- `markup::value::read_reference` meets its contract.
use Rattle.rules.specs.Markup.{reference}
use Rattle.markup.proofs.Characters.{char-first, char-second}
use Rattle.markup.proofs.value.read_reference.Goals as goal

pub returns-in-Some : goal.returns-in-Some
unfolding reference
returns-in-Some c = char-first _ _ c.in-Some.ensures

pub returns-in-Some-read_written : goal.returns-in-Some-read_written
unfolding reference
returns-in-Some-read_written c = char-second _ _ c.in_default.ensures (char-first _ _ c.in-Some-read_written.ensures)

pub returns-in-Some-read_written-2 : goal.returns-in-Some-read_written-2
unfolding reference
returns-in-Some-read_written-2 c = char-second _ _ c.in_default.ensures (char-second _ _ c.in_default-read_written.ensures (char-first _ _ c.in-Some-read_written-2.ensures))

pub returns-in-Some-read_written-3 : goal.returns-in-Some-read_written-3
unfolding reference
returns-in-Some-read_written-3 c =
    char-second _ _ c.in_default.ensures (char-second _ _ c.in_default-read_written.ensures (char-second _ _ c.in_default-read_written-2.ensures (char-first _ _ c.in-Some-read_written-3.ensures)))

pub returns : goal.returns
unfolding reference
returns c =
    char-second _ _ c.in_default.ensures (char-second _ _ c.in_default-read_written.ensures (char-second _ _ c.in_default-read_written-2.ensures (char-second _ _ c.in_default-read_written-3.ensures c.read_written-5.ensures)))
