-- 01-scope.md, "Ticks", and requests A4 and A5: timestamps, their ticks, precisions and spans.
use Rattle.std.specs.Prelude.{ℕ, zero, suc, ◌+◌, ◌-◌, ◌*◌, ◌^◌, Bool, true, not, ◌&&◌, List, [], ◌∷◌, ◌++◌, leb, ltb, length, get_or, ℤ}
use Rattle.std.proofs.Math.IntN.{sub_ℕ}
use Rattle.rules.specs.Basics.{if_some, is_from, is_digit, decimal}
use Rattle.rules.specs.Refusal.{Refusal, VALUE, DATE, CLOCK, ZONE, Outcome, answered, refused, ◌unless◌, ◌when◌}
use Rattle.rules.specs.Parsers.{Parser, pure, guard, ◌>>=◌, ◌>>◌, ◌or◌, one, times, up_to, byte, whole}
use Rattle.rules.specs.Calendar.{year_length, month_length, days_before, second, minute, hour, day}

-- an offset as written: none, or a sign with hours and minutes
pub data Zone : Type 0 where
  no_zone : Zone
  plus minus : (hours minutes : ℕ) → Zone

-- a timestamp as written: the year; the numbers of MM, DD, hh, mm, ss as far as they go; the digits after the point; the offset
pub record Written : Type 0 where
  pub year : ℕ
  pub parts : List ℕ
  pub fraction : List ℕ
  pub zone : Zone

-- the number of n digits
unfoldable pub digits : ℕ → Parser ℕ
digits n = do
  ds ← times n is_digit
  pure (decimal ds)

-- up to n numbers of two digits
unfoldable pub two_digits : ℕ → Parser (List ℕ)
two_digits zero = pure []
two_digits (suc n) =
    (do
      a ← digits 2
      more ← two_digits n
      pure (a ∷ more))
    or pure []

-- `.` and 1 to 4 digits
unfoldable pub point : Parser (List ℕ)
point = do
  byte 46
  d ← one is_digit
  ds ← up_to 3 is_digit
  pure (d ∷ ds)

-- hh or hhmm
unfoldable pub hours : (sign : ℕ → ℕ → Zone) → Parser Zone
hours sign = do
  h ← digits 2
  m ← digits 2 or pure 0
  pure (sign h m)

-- `+` or `-` with hh or hhmm
unfoldable pub zone : Parser Zone
zone = (byte 43 >> hours plus) or (byte 45 >> hours minus)

-- YYYY, then MM, DD, hh, mm, ss, each only after the one before; a fraction only after ss; an offset only after hh or finer
unfoldable pub timestamp : Parser Written
timestamp = do
  y ← digits 4
  ps ← two_digits 5
  f ← (guard (leb 5 (length ps)) >> point) or pure []
  z ← (guard (leb 3 (length ps)) >> zone) or pure no_zone
  pure (record { year = y; parts = ps; fraction = f; zone = z })

-- missing parts take their first value
abbrev pub month_of : Written → ℕ
month_of w = get_or w.parts 0 1

abbrev pub day_of : Written → ℕ
day_of w = get_or w.parts 1 1

abbrev pub hour_of : Written → ℕ
hour_of w = get_or w.parts 2 0

abbrev pub minute_of : Written → ℕ
minute_of w = get_or w.parts 3 0

abbrev pub second_of : Written → ℕ
second_of w = get_or w.parts 4 0

-- the digits after a point, 4 at most, in ten-thousandths
abbrev pub ten_thousandths : List ℕ → ℕ
ten_thousandths ds = decimal ds * 10 ^ (4 - length ds)

-- a date of the calendar, in years 0001 to 9999
abbrev pub is_date : Written → Bool
is_date w = is_from 1 9999 w.year && is_from 1 12 (month_of w) && is_from 1 (month_length w.year (month_of w)) (day_of w)

-- hours 00 to 23; minutes and seconds 00 to 59
abbrev pub is_clock : Written → Bool
is_clock w = leb (hour_of w) 23 && leb (minute_of w) 59 && leb (second_of w) 59

-- minutes 00 to 59, and 14:00 at most
abbrev pub is_offset_time : (hours minutes : ℕ) → Bool
is_offset_time h m = leb m 59 && leb (60 * h + m) 840

abbrev pub is_zone : Zone → Bool
is_zone no_zone = true
is_zone (plus h m) = is_offset_time h m
is_zone (minus h m) = is_offset_time h m

-- what is impossible in a text of the right form
unfoldable pub written_faults : Written → List Refusal
written_faults w = DATE when not (is_date w) ++ CLOCK when not (is_clock w) ++ ZONE when not (is_zone w.zone)

-- Ticks are counted in natural numbers from fourteen hours before 0001-01-01 00:00, the first that any offset reaches.
abbrev pub before_start : ℕ
before_start = 840 * minute

-- the minutes added for the offset, which is subtracted: 840 less the one written, or `shift`, 840 less the one agreed
abbrev pub shift_of : (shift : ℕ) → Zone → ℕ
shift_of shift no_zone = shift
shift_of shift (plus h m) = 840 - (60 * h + m)
shift_of shift (minus h m) = 840 + (60 * h + m)

unfoldable pub start_of : (shift : ℕ) → Written → ℕ
start_of shift w =
    days_before w.year (month_of w) (day_of w) * day + hour_of w * hour + minute_of w * minute + second_of w * second
    + ten_thousandths w.fraction + shift_of shift w.zone * minute

-- the length of the smallest written unit: year, month, day, hour, minute, or the last digit of the second
unfoldable pub unit_length : (year : ℕ) → (parts : List ℕ) → (fraction : List ℕ) → ℕ
unit_length y [] f = year_length y * day
unit_length y (m ∷ []) f = month_length y m * day
unit_length y (m ∷ d ∷ []) f = day
unit_length y (m ∷ d ∷ h ∷ []) f = hour
unit_length y (m ∷ d ∷ h ∷ i ∷ []) f = minute
unit_length y (m ∷ d ∷ h ∷ i ∷ s ∷ more) f = 10 ^ (4 - length f)

-- a timestamp read: its start and the next start of its smallest written unit, both counted from `before_start`, and its precision;
-- its span (the page's term) is from its start up to, not including, the next; its tick is `tick_of`
pub record Moment : Type 0 where
  pub start : ℕ
  pub precision : ℕ
  pub next : ℕ

-- precision: the digits written before any offset, fraction digits included
abbrev pub moment_of : (shift : ℕ) → Written → Moment
moment_of shift w = record {
  start = start_of shift w;
  precision = 4 + 2 * length w.parts + length w.fraction;
  next = start_of shift w + unit_length w.year w.parts w.fraction;
}

-- a count from fourteen hours before 0001-01-01 00:00 at offset zero, as a tick from there; and the tick of a timestamp
unfoldable pub tick_at : ℕ → ℤ
tick_at n = sub_ℕ n before_start

abbrev pub tick_of : Moment → ℤ
tick_of m = tick_at m.start

-- coarser than a second: it stops before ss
abbrev pub is_coarse : Moment → Bool
is_coarse m = ltb m.precision 14

-- a text of the wrong form is VALUE; one of the right form is refused by the first of what is impossible in it
unfoldable pub read_timestamp : (shift : ℕ) → List ℕ → Outcome Moment
read_timestamp shift text = if_some (whole timestamp text) (λ w. answered (moment_of shift w) unless written_faults w) (refused VALUE)
