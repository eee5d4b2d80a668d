-- `timestamp::form::read_zone_after` meets its contract.
use Rattle.timestamp.proofs.Reading.{zone_early, zone_late}
use Rattle.timestamp.proofs.form.read_zone_after.Goals as goal

pub returns-then-count-lt3 : goal.returns-then-count-lt3
returns-then-count-lt3 c = zone_early _ _ _ c.if-count-lt3.true c.requires

pub returns : goal.returns
returns c = zone_late _ _ _ _ c.if-count-lt3.false c.read_zone.ensures
