-- 02-change-requests.md, A1: the date and the clock of a tick, found by the lengths of years and months, and the full timestamp of it. The
-- law `timestamp_of_tick` says that it is read as that tick.
use Rattle.std.specs.Prelude.{ℕ, zero, suc, ◌-◌, ◌*◌, ◌/◌, ◌%◌, cond, List, [], ◌∷◌, ◌++◌, ltb, ℤ, pos, negsuc}
use Rattle.rules.specs.Basics.{bytes, digits_of}
use Rattle.rules.specs.Calendar.{year_length, month_length, days_of_years, second, minute, hour, day}

-- a unit of the calendar, counted as dates count it, and the days of it that have passed
pub record Reached : Type 0 where
  pub unit : ℕ
  pub passed : ℕ

-- the unit that so many days after the start of unit k lie in, where units are of these lengths; `fuel` is the units after k
unfoldable pub reached : (length_of : ℕ → ℕ) → (fuel k days : ℕ) → Reached
reached length_of zero k days = record { unit = k; passed = days }
reached length_of (suc f) k days =
    let later = reached length_of f (suc k) (days - length_of k) in
    cond (ltb days (length_of k)) (record { unit = k; passed = days }) later

-- days are counted from 0001-01-01: the year up to 9999, and in it the month
unfoldable pub year_at : (days : ℕ) → Reached
year_at days = reached year_length 9998 1 days

unfoldable pub month_at : (days : ℕ) → Reached
month_at days = reached (month_length (year_at days).unit) 11 1 (year_at days).passed

-- the ticks of years 0001 to 9999; the law `years-end` computes them
unfoldable pub years_end : ℕ
years_end = days_of_years 9999 * day

-- YYYYMMDD
unfoldable pub date_text : (days : ℕ) → List ℕ
date_text days = digits_of 4 (year_at days).unit ++ digits_of 2 (month_at days).unit ++ digits_of 2 (suc (month_at days).passed)

-- hhmmss.ffff, of the ticks since midnight
unfoldable pub clock_text : (ticks : ℕ) → List ℕ
clock_text t = digits_of 2 (t / hour) ++ digits_of 2 (t / minute % 60) ++ digits_of 2 (t / second % 60) ++ 46 ∷ digits_of 4 (t % second)

-- a full timestamp with four fraction digits and `+0000`; no tick before 0 is written
abbrev pub timestamp_text : ℤ → List ℕ
timestamp_text (pos t) = date_text (t / day) ++ clock_text (t % day) ++ bytes "+0000"
timestamp_text (negsuc t) = []
