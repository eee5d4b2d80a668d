-- 01-scope.md, "Ticks": the calendar, Gregorian throughout, and the units of time in ticks.
use Rattle.std.specs.Prelude.{ℕ, zero, suc, ◌+◌, ◌-◌, ◌*◌, ◌/◌, ◌%◌, Bool, not, ◌&&◌, ◌||◌, cond, List, [], ◌∷◌, eqb, get_or}

abbrev pub is_leap : ℕ → Bool
is_leap y = eqb (y % 4) 0 && (not (eqb (y % 100) 0) || eqb (y % 400) 0)

abbrev pub year_length : ℕ → ℕ
year_length y = cond (is_leap y) 366 365

abbrev pub month_lengths : ℕ → List ℕ
month_lengths y = 31 ∷ cond (is_leap y) 29 28 ∷ 31 ∷ 30 ∷ 31 ∷ 30 ∷ 31 ∷ 31 ∷ 30 ∷ 31 ∷ 30 ∷ 31 ∷ []

-- the length of a month of year y, counted from 1; there is no day in a month past the twelfth, and `is_date` rules month 0 out
unfoldable pub month_length : (y month : ℕ) → ℕ
month_length y m = get_or (month_lengths y) (m - 1) 0

-- the days of years 1 to n, their lengths added up
unfoldable pub days_of_years : ℕ → ℕ
days_of_years zero = 0
days_of_years (suc n) = days_of_years n + year_length (suc n)

-- the days of months 1 to n of year y
unfoldable pub days_of_months : (y n : ℕ) → ℕ
days_of_months y zero = 0
days_of_months y (suc n) = days_of_months y n + month_length y (suc n)

abbrev pub days_before_year : ℕ → ℕ
days_before_year y = days_of_years (y - 1)

-- 02-change-requests.md, A3: the same by division. A leap day for every fourth of the years before, less every hundredth, and again for
-- every four hundredth; the subtraction never stops at 0. The law `days_by_division_lem` says that it is the same.
abbrev pub days_by_division : ℕ → ℕ
days_by_division y = 365 * (y - 1) + (y - 1) / 4 + (y - 1) / 400 - (y - 1) / 100

-- the days from 0001-01-01 up to a date
abbrev pub days_before : (y month day : ℕ) → ℕ
days_before y m d = days_before_year y + days_of_months y (m - 1) + (d - 1)

-- a tick (the page's term) is a ten-thousandth of a second; these are the ticks in a second and so on, 864,000,000 in a day
abbrev pub second : ℕ
second = 10_000

abbrev pub minute : ℕ
minute = 60 * second

abbrev pub hour : ℕ
hour = 60 * minute

abbrev pub day : ℕ
day = 24 * hour
