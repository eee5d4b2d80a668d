-- `element::value::quote` meets its contract.
use Rattle.text.proofs.Reading.{many_upto}
use Rattle.element.proofs.value.quote.Goals as goal

pub returns : goal.returns
returns c = let e = c.skip.ensures in many_upto _ _ e.within.0 e.within.1 e.passed e.stopped
