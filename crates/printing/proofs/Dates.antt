-- The date of a day by division: the quotient is at most one year, or one month, too small.
use Prim.Native.Nat.{ℕ, zero, suc, ◌+◌, ◌-◌, ◌*◌, ◌/◌, ◌≤◌, ◌<◌}
use mathlib.Core.Path.{◌≡◌, subst}
use mathlib.Core.Bool.{Bool, true, false, cond}
use native.Mathlib.Omega.{arith}
use Rattle.rules.specs.Calendar.{is_leap, year_length, days_of_years, days_of_months, days_before_year, days_by_division}
use Rattle.rules.proofs.Calendar.{days_of_years_lem, days-before-year, days_by_division_lem, days_of_years-most, months_make_year, month_ends}
use Rattle.rules.proofs.Dates.{month_most, IsDateOf, date_of, date_unique}
use Rattle.printing.specs.Dates.{date_at, InYear, InMonth}

module _ (days : ℕ) (h : days < 3_652_059) where
  abbrev years : ℕ
  years = 400 * days / 146_097

  pub next-year : days_by_division (years + 1 + 1) ≤ days → InYear days (years + 1 + 1)
  next-year l = record {
    least = omega arith;
    most = omega (arith, days-before-year (years + 1 + 1));
    from = omega (arith, l, days_by_division_lem (years + 1 + 1));
    until = omega (arith, days_of_years_lem (years + 1 + 1));
  }

  pub this_year : days < days_by_division (years + 1 + 1) → InYear days (years + 1)
  this_year l =
      let z : years + 1 - 1 ≡ years = omega arith in
      let y : years + 1 + 1 - 1 ≡ years + 1 = omega arith in
      record { least = omega arith; most = omega arith; from = rw z (omega (arith, days_of_years_lem years)); until = rw y at (subst (λ (n : ℕ). days < n) (days_by_division_lem (years + 1 + 1)) l) }

year-most : (y : ℕ) → (365 ≤ year_length y) × (year_length y ≤ 366)
year-most y = go (is_leap y)
  where
    go : (leap : Bool) → (365 ≤ cond leap 366 365) × (cond leap 366 365 ≤ 366)
    go true = omega arith
    go false = omega arith

-- no month has over 31 days
months_most : (y m n : ℕ) → days_of_months y (m + n) ≤ days_of_months y m + 31 * n
unfolding days_of_months
months_most y m zero = let z : m + 0 ≡ m = omega arith in rw z (omega arith)
months_most y m (suc n) = let z : m + suc n ≡ suc (m + n) = omega arith in rw z (omega (arith, months_most y m n, month_most y (suc (m + n))))

-- so the days of n months are 31 each, or up to 7 fewer
months_near : (y n : ℕ) → n ≤ 12 → (days_of_months y n ≤ 31 * n) × (31 * n ≤ days_of_months y n + 7)
unfolding days_of_months
months_near y n h =
    let z : n + (12 - n) ≡ 12 = omega arith in
    let f : days_of_months y 12 ≤ days_of_months y n + 31 * (12 - n) = rw z at (months_most y n (12 - n)) in
    let e : 0 + n ≡ n = omega arith in
    (omega (arith, rw e at (months_most y 0 n)), omega (arith, months_make_year y, year-most y))

module _ (y day : ℕ) (h : day < year_length y) where
  abbrev months : ℕ
  months = day / 31

  pub next_month : months + 1 < 12 → days_of_months y (months + 1 + 1 - 1) ≤ day → InMonth y day (months + 1 + 1)
  next_month k l = record { least = omega arith; most = omega arith; from = l; until = omega (arith, months_near y (months + 1 + 1) (omega arith)) }

  from_month : months ≤ 11 → days_of_months y (months + 1 - 1) ≤ day
  from_month k = let z : months + 1 - 1 ≡ months = omega arith in rw z (omega (arith, months_near y months (omega arith)))

  pub this_month : months + 1 < 12 → day < days_of_months y (months + 1 + 1 - 1) → InMonth y day (months + 1)
  this_month k l =
      let z : months + 1 + 1 - 1 ≡ months + 1 = omega arith in
      record { least = omega arith; most = omega arith; from = from_month (omega arith); until = rw z at l }

  pub last_month : 12 ≤ months + 1 → InMonth y day (months + 1)
  last_month k =
      let z : months + 1 ≡ 12 = omega (arith, year-most y) in
      record { least = omega arith; most = omega arith; from = from_month (omega arith); until = rw z (omega (arith, months_make_year y)) }

-- the day in its year, and the date that is found
module _ (days y : ℕ) (i : InYear days y) where
  pub in_year : days - days_before_year y < year_length y
  unfolding days_of_years
  in_year = go y i.least i.from i.until
    where
      go : (y : ℕ) → 1 ≤ y → days_of_years (y - 1) ≤ days → days < days_of_years y → days - days_before_year y < year_length y
      go zero l f u = absurd (omega arith)
      go (suc y) l f u = let z : suc y - 1 ≡ y = omega arith in rw z (omega (arith, rw z at f))

  pub date_found : (m : ℕ) → InMonth y (days - days_before_year y) m
      → record { year = y; month = m; day = days - days_before_year y - days_of_months y (m - 1) + 1 } ≡ date_at days
  date_found m j =
      let d = days - days_before_year y - days_of_months y (m - 1) + 1 in
      let found : IsDateOf days y m d = record {
        year_low = i.least;
        year_high = i.most;
        month_low = j.least;
        month_high = j.most;
        day_low = omega arith;
        day_high = omega (arith, j.from, j.until, month_ends y m j.least);
        days_are = omega (arith, i.from, j.from);
      } in
      let (a, b, c) = date_unique days y m d (date_at days).year (date_at days).month (date_at days).day found (date_of days small) in
      rw (c, a, b)
    where
      small : days < 3_652_059
      small = omega (arith, i.until, days_of_years-most y i.most)
