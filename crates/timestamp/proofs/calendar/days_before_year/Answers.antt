-- `timestamp::calendar::days_before_year` meets its contract: a four hundredth is a fourth of a hundredth.
use native.Mathlib.Omega.{arith}
use Rattle.timestamp.proofs.calendar.days_before_year.Goals as goal

pub returns : goal.returns
returns c = omega arith
