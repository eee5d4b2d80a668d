-- `datatype::rows::next_child` meets its contract: the children of the kind's row, one after another.
use Rattle.rules.specs.Types.{line_of}
use Rattle.datatype.proofs.rows.next_child.Goals as goal

pub returns-in-Empty : goal.returns-in-Empty
unfolding line_of
returns-in-Empty c = rw (← c.row_of-row.ensures, c.in-Empty.is)

pub returns-in-Bounds : goal.returns-in-Bounds
unfolding line_of
returns-in-Bounds c =
    rw (← c.row_of-row.ensures, c.in-Bounds.is, c.step_if.ensures, c.step_if-high.ensures)

pub returns-in-Terms : goal.returns-in-Terms
unfolding line_of
returns-in-Terms c = rw (← c.row_of-row.ensures, c.in-Terms.is, c.step_if-in-Terms.ensures)

pub returns-in-Difference : goal.returns-in-Difference
unfolding line_of
returns-in-Difference c =
    rw (← c.row_of-row.ensures, c.in-Difference.is, c.step_if-in-Difference.ensures, c.step_if-last.ensures)

pub returns-in-Display : goal.returns-in-Display
unfolding line_of
returns-in-Display c = rw (← c.row_of-row.ensures, c.in-Display.is, c.step_if-in-Display.ensures)

pub returns-in-Parts : goal.returns-in-Parts
unfolding line_of
returns-in-Parts c = rw (← c.row_of-row.ensures, c.in-Parts.is, c.step_if-in-Parts.ensures)
