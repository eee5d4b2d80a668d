-- `rigcactus::listed_number` meets its contract.
use native.Mathlib.Omega.{arith}
use mathlib.Core.Path.{subst}
use Rattle.listing.specs.Answers.{Few}
use Rattle.rigcactus.proofs.listed_number.Goals as goal

pub overflow_mul-result : goal.overflow_mul-result
overflow_mul-result c = let h = subst Few c.in-Ok.is c.requires in omega (arith, h)

pub returns-in-Ok : goal.returns-in-Ok
returns-in-Ok c = rw c.in-Ok.is

pub returns-in-Err : goal.returns-in-Err
returns-in-Err c = rw c.in-Err.is c.number.ensures
