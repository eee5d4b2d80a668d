-- `markup::marks::mix_byte` meets its contract.
use native.Mathlib.Omega.{arith}
use Rattle.markup.proofs.marks.mix_byte.Goals as goal

pub returns : goal.returns
returns c = (rw c.from.ensures, omega arith)
