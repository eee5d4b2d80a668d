-- `markup::scan::skip_space` meets its contract.
use Rattle.text.proofs.Reading.{many_upto}
use Rattle.markup.proofs.scan.skip_space.Goals as goal

pub returns : goal.returns
returns c = let e = c.skip.ensures in many_upto _ _ e.within.0 e.within.1 e.passed e.stopped
