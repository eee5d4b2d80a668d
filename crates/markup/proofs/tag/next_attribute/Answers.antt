-- `markup::tag::next_attribute` meets its contract.
use Rattle.text.proofs.Reading.{good}
use Rattle.markup.proofs.Attributes.{next_not, next_attribute, stops_space}
use Rattle.markup.proofs.tag.next_attribute.Goals as goal

pub returns-in_err-name : goal.returns-in_err-name
returns-in_err-name c = next_not c.from_residual.ensures (stops_space c.in_err-name.ensures)

pub read_attribute-requires : goal.read_attribute-requires
read_attribute-requires c = (good c.in_ok-name.ensures).high

pub returns : goal.returns
returns c = next_attribute (good c.in_ok-name.ensures) c.read_attribute.ensures
