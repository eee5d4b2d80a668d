-- `element::root` meets its contract.
use Rattle.element.proofs.Documents.{root-at}
use Rattle.element.proofs.root.Goals as goal

pub returns : goal.returns
returns c = record { within = c.skip_space.ensures.high; tells = root-at c.skip_space.ensures }
