-- `markup::scan::is_name_start` meets its contract.
use Rattle.markup.proofs.scan.is_name_start.Goals as goal

pub returns : goal.returns
returns c = rw c.is_letter.ensures
