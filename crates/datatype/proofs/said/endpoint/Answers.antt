-- `datatype::said::endpoint` meets its contract.
use Rattle.datatype.proofs.said.endpoint.Goals as goal

pub returns-in-Valued : goal.returns-in-Valued
returns-in-Valued c = rw c.in-Valued.is
