-- `element::name::plain_c` meets its contract.
use native.Mathlib.Omega.{arith}
use Rattle.element.proofs.Plain.{plain_if}
use Rattle.element.proofs.name.plain_c.Goals as goal

pub returns-in-Some : goal.returns-in-Some
returns-in-Some c = plain_if 8 (omega arith) c.in-Some.ensures

pub returns-in-Some-plain_if : goal.returns-in-Some-plain_if
returns-in-Some-plain_if c = plain_if 9 (omega arith) c.in-Some-plain_if.ensures

pub returns : goal.returns
returns c = plain_if 5 (omega arith) c.plain_if-3.ensures
