-- `timestamp::form::read_form` meets its contract: what was read, part after part, is the whole text or not.
use Rattle.timestamp.proofs.Reading.{no_year}
use Rattle.timestamp.proofs.Whole.{whole-written, whole_longer}
use Rattle.timestamp.proofs.form.read_form.Goals as goal

pub returns-in_err-year : goal.returns-in_err-year
returns-in_err-year c = rw c.from_residual.ensures (no_year _ c.in_err-year.ensures)

pub read_parts-parts-requires : goal.read_parts-parts-requires
read_parts-parts-requires c = c.in_ok-year.ensures.0

pub read_fraction_after-fraction-requires : goal.read_fraction_after-fraction-requires
read_fraction_after-fraction-requires c = c.read_parts-parts.ensures.high

pub read_zone_after-zoned-requires : goal.read_zone_after-zoned-requires
read_zone_after-zoned-requires c = c.read_fraction_after-fraction.ensures.high

pub returns-then-zoned-s : goal.returns-then-zoned-s
returns-then-zoned-s c = whole_longer c.args.s.now _ c.in_ok-year.ensures _ c.read_parts-parts.ensures _ c.read_fraction_after-fraction.ensures _ c.read_zone_after-zoned.ensures c.if-zoned-s.true

pub returns : goal.returns
returns c = whole-written c.args.s.now _ c.in_ok-year.ensures _ c.read_parts-parts.ensures _ c.read_fraction_after-fraction.ensures _ c.read_zone_after-zoned.ensures c.if-zoned-s.false
