-- `comparison::times::compare_said` meets its contract.
use Rattle.comparison.proofs.times.compare_said.Goals as goal

pub returns : goal.returns
returns c = rw (← c.endpoint.ensures, ← c.endpoint-2.ensures) c.compare_flagged.ensures
