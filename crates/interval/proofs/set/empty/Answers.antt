-- `interval::set::empty` meets its contract.
use Rattle.std.proofs.Common.{refl, zero-le}
use Rattle.rules.specs.Basics.{exists}
use Rattle.interval.proofs.set.empty.Goals as goal

pub returns : goal.returns
unfolding exists
returns c = record {
  canonical = record { fits = zero-le; ticked = tt; rises = tt };
  places = λ x. refl;
  short = zero-le;
}
