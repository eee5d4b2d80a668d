-- `comparison::times::compare_endpoints` meets its contract.
use Rattle.comparison.proofs.times.compare_endpoints.Goals as goal

pub returns-in-Valued : goal.returns-in-Valued
returns-in-Valued c = rw c.in-Valued.is c.compare_valued.ensures
