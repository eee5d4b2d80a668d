-- `element::value::start` meets its contract.
use Rattle.element.proofs.Decoded.{text-from}
use Rattle.element.proofs.value.start.Goals as goal

pub returns : goal.returns
returns c = let g = text-from c.requires c.read_byte.ensures in record { within = rw c.unwrap_or.ensures g.0; tells = rw c.unwrap_or.ensures g.1 }
