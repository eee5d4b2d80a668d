-- `lent::read_row` meets its contract.
use Rattle.lent.proofs.read_row.Goals as goal

pub returns : goal.returns
returns c = rw (c.read_number.ensures, c.read_number-2.ensures, c.read_number-3.ensures, c.read_number-4.ensures)
