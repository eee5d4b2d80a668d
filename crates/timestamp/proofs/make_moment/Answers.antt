-- `timestamp::make_moment` meets its contract.
use Prim.Native.Nat.{◌+◌, ◌*◌}
use mathlib.Core.Path.{◌≡◌}
use native.Mathlib.Omega.{arith}
use Rattle.timestamp.specs.Moments.{start_written, moment_written}
use Rattle.timestamp.proofs.Ranges.{date-range, clock-range}
use Rattle.timestamp.proofs.make_moment.Goals as goal

pub of_date-date-requires : goal.of_date-date-requires
of_date-date-requires c = date-range _ _ _ c.requires.date

pub of_clock-clock-requires : goal.of_clock-clock-requires
of_clock-clock-requires c = let h = clock-range _ _ _ c.requires.clock in (h.0, (h.1, (h.2, c.requires.fraction)))

pub minutes_to_add-requires : goal.minutes_to_add-requires
minutes_to_add-requires c = record { fact_1 = c.requires.hours; fact_2 = c.requires.zone }

pub unit_ticks-requires : goal.unit_ticks-requires
unit_ticks-requires c = let d = date-range c.args.w.year c.args.w.parts.month c.args.w.parts.day c.requires.date in record { fact_1 = d.from_month; fact_2 = d.to_month; fact_3 = c.requires.parts; fact_4 = c.requires.digits }

pub returns : goal.returns
returns c =
    let s : c.of_date-date.result.0 + c.of_clock-clock.result.0 + c.minutes_to_add.result * 600_000 ≡ start_written c.args.shift.minutes c.args.w
    = rw (c.of_date-date.ensures.0, c.of_clock-clock.ensures.0, c.minutes_to_add.ensures.0) (omega arith) in
    λ i. record { start = s i; precision = (moment_written c.args.shift.minutes c.args.w).precision; next = s i + c.unit_ticks.ensures.0 i }
