-- `rigcactus::second_refused` meets its contract.
use native.Mathlib.Omega.{arith}
use Rattle.rules.proofs.ListingPromise.{small}
use Rattle.refusal.specs.Meaning.{refusal_of}
use Rattle.rigcactus.proofs.second_refused.Goals as goal

pub overflow_add-result : goal.overflow_add-result
overflow_add-result c = omega (arith, c.number.ensures, small (refusal_of c.args.r))
