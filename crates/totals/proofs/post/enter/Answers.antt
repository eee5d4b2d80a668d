-- `totals::post::enter` meets its contract.
use Rattle.std.proofs.Common.{refl}
use Rattle.totals.proofs.post.enter.Goals as goal

pub returns : goal.returns
returns c = rw c.held_with.ensures refl
