-- `timestamp::form::read_zone` meets its contract.
use Prim.Native.Nat.{◌+◌}
use lib.ListN.{drop}
use Rattle.text.proofs.Numerals.{none-at-end}
use Rattle.timestamp.proofs.Reading.{zone-none, no_sign, no_hours, signed}
use Rattle.timestamp.proofs.form.read_zone.Goals as goal

pub returns-then-s-at : goal.returns-then-s-at
returns-then-s-at c = record { reads = zone-none (drop c.args.at c.args.s.now) (none-at-end _ c.args.s.now c.args.at c.if-s-at.true) (none-at-end _ c.args.s.now c.args.at c.if-s-at.true); small = tt; high = c.requires }

pub returns-then-sign : goal.returns-then-sign
returns-then-sign c = record { reads = no_sign c.args.s.now c.args.at c.if-s-at.false c.if-sign.true; small = tt; high = c.requires }

pub returns-in_default : goal.returns-in_default
returns-in_default c = record { reads = no_hours c.args.s.now c.args.at c.if-s-at.false c.if-sign.false c.in_default.ensures; small = tt; high = c.requires }

pub returns : goal.returns
returns c =
    let h = c.in-Some.ensures in
    record { reads = signed c.args.s.now c.args.at c.if-s-at.false c.in-Some.written c.if-sign.false h.0; small = (h.1, h.2); high = h.3 }
