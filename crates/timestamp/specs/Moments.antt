-- Dates, clocks and units as code has them, and a timestamp's answer, in the words of the rules.
use Rattle.std.specs.Prelude.{ℕ, zero, suc, ◌+◌, ◌-◌, ◌*◌, ◌^◌, ◌≤◌, ◌<◌, ◌≡◌, Bool, true, ◌&&◌, leb, Result, Ok, Err}
use Rattle.rules.specs.Basics.{is_from}
use Rattle.rules.specs.Refusal.{Outcome, answered, refused}
use Rattle.rules.specs.Calendar.{year_length, month_length, days_before, second, minute, hour, day}
use Rattle.rules.specs.Timestamp.{is_zone, shift_of, Moment as RulesMoment}
use Rattle.refusal.specs.Meaning.{refusal_of}
use Rattle.timestamp.specs.Written.{zone_of, SmallZone}
use Rattle.timestamp.specs.declared.form.Written.{Written}
use Rattle.timestamp.specs.declared.Moment.{Moment}
use Rattle.refusal.specs.declared.Refusal.{Refusal}

-- numbers small enough to be a date's
pub record InRange (year month day : ℕ) : Type 0 where
  pub from_year : 1 ≤ year
  pub to_year : year ≤ 9999
  pub from_month : 1 ≤ month
  pub to_month : month ≤ 12
  pub from_day : 1 ≤ day
  pub to_day : day ≤ 31

-- a date of the calendar, in years 0001 to 9999
abbrev pub is_date_of : (year month day : ℕ) → Bool
is_date_of y m d = is_from 1 9999 y && is_from 1 12 m && is_from 1 (month_length y m) d

abbrev pub is_clock_of : (hour minute second : ℕ) → Bool
is_clock_of h m s = leb h 23 && leb m 59 && leb s 59

-- the ticks of the smallest unit, where so many parts after the year and so many digits of a fraction are written
unfoldable pub unit_ticks : (year month parts digits : ℕ) → ℕ
unit_ticks y m zero d = year_length y * day
unit_ticks y m (suc zero) d = month_length y m * day
unit_ticks y m (suc (suc zero)) d = day
unit_ticks y m (suc (suc (suc zero))) d = hour
unit_ticks y m (suc (suc (suc (suc zero)))) d = minute
unit_ticks y m (suc (suc (suc (suc (suc n))))) d = 10 ^ (4 - d)

-- the answer, as the rules have it
abbrev pub moment_of : Moment → RulesMoment
moment_of m = record { start = m.start; precision = m.precision; next = m.next }

abbrev pub outcome_of : Result Moment Refusal → Outcome RulesMoment
outcome_of (Ok m) = answered (moment_of m)
outcome_of (Err r) = refused (refusal_of r)

-- what is written is possible, and the agreed offset is in range
pub record Possible (shift : ℕ) (w : Written) : Type 0 where
  pub date : is_date_of w.year w.parts.month w.parts.day ≡ true
  pub clock : is_clock_of w.parts.hour w.parts.minute w.parts.second ≡ true
  pub zone : is_zone (zone_of w.zone) ≡ true
  pub hours : SmallZone w.zone
  pub parts : w.parts.count ≤ 5
  pub digits : w.fraction.count ≤ 4
  pub fraction : w.fraction.value < 10_000
  pub agreed : shift ≤ 1680

abbrev pub start_written : (shift : ℕ) → Written → ℕ
start_written shift w =
    days_before w.year w.parts.month w.parts.day * day + w.parts.hour * hour + w.parts.minute * minute + w.parts.second * second
    + w.fraction.value + shift_of shift (zone_of w.zone) * minute

-- the moment of what is written
abbrev pub moment_written : (shift : ℕ) → Written → Moment
moment_written shift w = record {
  start = start_written shift w;
  precision = 4 + 2 * w.parts.count + w.fraction.count;
  next = start_written shift w + unit_ticks w.year w.parts.month w.parts.count w.fraction.count;
}
