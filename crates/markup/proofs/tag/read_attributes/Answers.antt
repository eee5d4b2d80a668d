-- `markup::tag::read_attributes` meets its contract.
use Rattle.rules.specs.Markup.{tag_attributes}
use Rattle.text.proofs.Reading.{enough}
use Rattle.markup.specs.Attributes.{distinct_attributes}
use Rattle.markup.proofs.Attributes.{told-sure}
use Rattle.markup.proofs.tag.read_attributes.Goals as goal

pub returns-in-Some : goal.returns-in-Some
unfolding tag_attributes
returns-in-Some c = enough distinct_attributes (told-sure c.in-Some.ensures)
