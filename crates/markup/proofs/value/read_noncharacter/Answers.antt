-- `markup::value::read_noncharacter` meets its contract.
use Rattle.rules.specs.Markup.{noncharacter}
use Rattle.text.proofs.Reading.{first, second}
use Rattle.markup.proofs.value.read_noncharacter.Goals as goal

pub returns-in-Some : goal.returns-in-Some
unfolding noncharacter
returns-in-Some c = first _ _ c.in-Some.ensures

pub returns : goal.returns
unfolding noncharacter
returns c = second _ _ c.in_default.ensures c.read_literal-2.ensures
