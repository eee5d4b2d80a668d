-- `markup::tag::read_head` meets its contract.
use Rattle.text.proofs.Reading.{good}
use Rattle.markup.specs.Tags.{head}
use Rattle.markup.proofs.Tags.{head-not, no_less, no_name}
use Rattle.markup.proofs.tag.read_head.Goals as goal

pub returns-in_err-name : goal.returns-in_err-name
returns-in_err-name c = head-not c.from_residual.ensures (no_less c.in_err-name.ensures)

pub read_name-requires : goal.read_name-requires
read_name-requires c = (good c.in_ok-name.ensures).high

pub returns-in_err-name_end : goal.returns-in_err-name_end
returns-in_err-name_end c = head-not c.from_residual-in_err-name_end.ensures (no_name (good c.in_ok-name.ensures) c.in_err-name_end.ensures)

pub returns : goal.returns
returns c = head _ _ (record { less = good c.in_ok-name.ensures; named = good c.in_ok-name_end.ensures })
