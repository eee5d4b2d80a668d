-- `timestamp::tick::Tick::of_date` meets its contract.
use Rattle.timestamp.proofs.Ranges.{days-most}
use mathlib.Core.Path.{refl}
use native.Mathlib.Omega.{arith}
use Rattle.timestamp.proofs.tick.Tick.of_date.Goals as goal

pub days_before-requires : goal.days_before-requires
days_before-requires c = c.requires

pub overflow_mul-result : goal.overflow_mul-result
overflow_mul-result c = omega (arith, c.days_before.ensures, days-most c.args.year c.args.month c.args.day c.requires)

pub returns : goal.returns
returns c = (rw c.days_before.ensures refl, omega (arith, c.days_before.ensures, days-most c.args.year c.args.month c.args.day c.requires))
