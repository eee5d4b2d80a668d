-- `markup::scan::read_some_space` meets its contract.
use mathlib.Core.Path.{◌≡◌, refl, sym}
use mathlib.Core.Bool.{Bool, true, false}
use Rattle.rules.specs.Markup.{some_space}
use Rattle.text.proofs.Reading.{answer, some_answer}
use Rattle.markup.proofs.scan.read_some_space.Goals as goal

pub returns : goal.returns
unfolding some_space
returns c = answer (sym c.then_some.ensures) (some_answer _ _ c.skip_space-end.ensures)
