-- 02-change-requests.md, A3, "Stop counting years one by one", in its order and words: statements about the definitions that all services read
-- and write dates by, and about the services.
use Rattle.std.specs.Prelude.{ℕ, suc, ◌+◌, ◌-◌, ◌*◌, ◌/◌, ◌^◌, ◌≤◌, ◌<◌, ◌≡◌, List, take, ℤ, pos}
use Rattle.std.proofs.Math.Option.{some}
use Rattle.rules.specs.Basics.{digits_of}
use Rattle.rules.specs.Refusal.{answered}
use Rattle.rules.specs.Parsers.{whole}
use Rattle.rules.specs.Calendar.{year_length, days_of_months, days_before_year, days_by_division, second, minute, hour, day}
use Rattle.rules.specs.Timestamp.{Written, timestamp, month_of, day_of, hour_of, minute_of, second_of, ten_thousandths, shift_of, Moment, read_timestamp}
use Rattle.rules.specs.Dates.{timestamp_text}
use Rattle.demands.specs.Services.{Services}

-- the ticks of what is written, from the start of its year on
abbrev pub ticks_in_year : Written → ℕ
ticks_in_year w =
    (days_of_months w.year (month_of w - 1) + (day_of w - 1)) * day + hour_of w * hour + minute_of w * minute + second_of w * second
    + ten_thousandths w.fraction

-- year y begins at the tick or before it, and the next year after it, both by division
abbrev pub IsYearOf : (y tick : ℕ) → Type 0
IsYearOf y tick = (1 ≤ y) × (y ≤ 9999) × (days_by_division y * day ≤ tick) × (tick < days_by_division (suc y) * day)

pub record YearsPromise (s : Services) : Type 0 where
  -- "work the days before a year out by division, with no step for each year": that there is none is seen in the code (docs/PROVED.md)
  pub divided : (y : ℕ) → days_by_division y ≡ 365 * (y - 1) + (y - 1) / 4 + (y - 1) / 400 - (y - 1) / 100
  -- so begins every timestamp, alone or in a record; so ends the span of one that is a year; and so is found the year of a tick that is printed
  pub starts : (shift : ℕ) (text : List ℕ) (m : Moment) → read_timestamp shift text ≡ answered m
      → (w : Written) × (whole timestamp text ≡ some w)
      × (m.start ≡ days_by_division w.year * day + ticks_in_year w + shift_of shift w.zone * minute)
  pub year_ends : (shift y : ℕ) (m : Moment) → 1 ≤ y → y ≤ 9999 → read_timestamp shift (digits_of 4 y) ≡ answered m
      → m.next ≡ days_by_division (suc y) * day + shift * minute
  pub printed_years : (tick : ℕ) → tick < days_by_division 10_000 * day → (y : ℕ) × IsYearOf y tick × (take 4 (timestamp_text (pos tick)) ≡ digits_of 4 y)
  -- the service gives a year written alone, at offset zero, the tick after the days before it
  pub year_ticks : (y : ℕ) → 1 ≤ y → y ≤ 9999 → (before : ℤ)
      → (s.tick_says (pos 0) (digits_of 4 y) ≡ 4 * 2 ^ 8) × (s.tick_leaves (pos 0) (digits_of 4 y) before ≡ pos (days_by_division y * day))
  -- "adding up the years' lengths one by one": none before year 0001, and a year's length for each step
  pub none_before : days_before_year 1 ≡ 0
  pub one_by_one : (y : ℕ) → 1 ≤ y → y ≤ 9999 → days_before_year (suc y) ≡ days_before_year y + year_length y
  -- "and show once for all years 0001 to 10000 that this equals" it
  pub added_up : (y : ℕ) → 1 ≤ y → y ≤ 10_000 → days_by_division y ≡ days_before_year y
