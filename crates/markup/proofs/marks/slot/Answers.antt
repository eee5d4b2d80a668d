-- `markup::marks::slot` meets its contract.
use native.Mathlib.Omega.{arith}
use Rattle.markup.proofs.marks.slot.Goals as goal

pub returns : goal.returns
returns c = (rw (c.from.ensures, c.from-2.ensures), omega arith)
