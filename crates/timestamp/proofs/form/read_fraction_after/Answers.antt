-- `timestamp::form::read_fraction_after` meets its contract.
use Rattle.timestamp.proofs.Reading.{fraction_early, fraction_late}
use Rattle.timestamp.proofs.form.read_fraction_after.Goals as goal

pub returns-then-count-lt5 : goal.returns-then-count-lt5
returns-then-count-lt5 c = fraction_early _ _ _ c.if-count-lt5.true c.requires

pub returns : goal.returns
returns c = fraction_late _ _ _ _ c.if-count-lt5.false c.read_fraction.ensures
