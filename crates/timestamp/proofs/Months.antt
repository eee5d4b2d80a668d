-- The formulas for months: each says what the rules say, by one computed test of all months.
use Prim.Native.Nat.{ℕ, zero, suc, ◌+◌, ◌-◌, ◌*◌, ◌/◌, ◌%◌, ◌≤◌}
use mathlib.Core.Path.{◌≡◌, refl}
use mathlib.Core.Bool.{Bool, true, false, ◌||◌, cond}
use mathlib.Core.List.{List, [], ◌∷◌}
use native.Mathlib.Omega.{arith}
use borrow.Author.Tests.{leb-true, leb-false, le-leb, lt-leb, eqb-true, ne_eqb}
use lib.Dec.{eqb, leb}
use lib.ListN.{get_or}
use Rattle.rules.specs.Calendar.{is_leap, year_length, month_length, days_of_years, days_of_months, days_before_year, days_by_division, days_before}
use Rattle.rules.proofs.Tests.{clash, is_from-true, passes, passed}
use Rattle.rules.specs.Basics.{is_from}
use Rattle.rules.proofs.Calendar.{days_by_division_lem}
use Rattle.timestamp.specs.Moments.{InRange}

-- the lengths of the months, and the days of the first of them
lengths : Bool → List ℕ
lengths leap = 31 ∷ cond leap 29 28 ∷ 31 ∷ 30 ∷ 31 ∷ 30 ∷ 31 ∷ 31 ∷ 30 ∷ 31 ∷ 30 ∷ 31 ∷ []

total : List ℕ → ℕ → ℕ
total l zero = 0
total l (suc n) = total l n + get_or l n 0

days-total : (y n : ℕ) → days_of_months y n ≡ total (lengths (is_leap y)) n
unfolding days_of_months month_length total lengths
days-total y zero = refl
days-total y (suc n) = let z : suc n - 1 ≡ n = omega arith in rw (days-total y n, z) refl

-- a test of every month, in a year with a leap day and in one without
in_months : (test : Bool → ℕ → Bool) → passes 13 (λ m. eqb m 0 || test true m) ≡ true → passes 13 (λ m. eqb m 0 || test false m) ≡ true
    → (leap : Bool) (m : ℕ) → 1 ≤ m → m ≤ 12 → test leap m ≡ true
in_months test e f leap m h l = rw (ne_eqb m 0 (λ z. omega arith)) at (go leap)
  where
    go : (leap : Bool) → (eqb m 0 || test leap m) ≡ true
    go true = passed 13 (λ m. eqb m 0 || test true m) m e (omega arith)
    go false = passed 13 (λ m. eqb m 0 || test false m) m f (omega arith)

-- 31 and 30 in turn, from August on beginning again with 31
length_test : Bool → ℕ → Bool
length_test leap m = eqb (cond (eqb m 2) (cond leap 29 28) (30 + (m + m / 8) % 2)) (get_or (lengths leap) (m - 1) 0)

pub month_length_lem : (y m : ℕ) → 1 ≤ m → m ≤ 12 → cond (eqb m 2) (cond (is_leap y) 29 28) (30 + (m + m / 8) % 2) ≡ month_length y m
unfolding month_length lengths length_test passes
month_length_lem y m h l = eqb-true _ _ (in_months length_test refl refl (is_leap y) m h l)

-- as if the second had 30 days
before_test : Bool → ℕ → Bool
before_test leap m = eqb ((367 * m - 362) / 12) (total (lengths leap) (m - 1) + cond (leb m 2) 0 (cond leap 1 2))

pub days-before_month : (y m : ℕ) → 1 ≤ m → m ≤ 12 → (367 * m - 362) / 12 ≡ days_of_months y (m - 1) + cond (leb m 2) 0 (cond (is_leap y) 1 2)
unfolding before_test passes total lengths
days-before_month y m h l = rw (days-total y (m - 1)) (eqb-true _ _ (in_months before_test refl refl (is_leap y) m h l))

-- from March on: January and February with the days of the year before them left out, the others with those of their own year
march_test : Bool → ℕ → Bool
march_test leap m = eqb (cond (leb m 2) 0 (cond leap 366 365) + (153 * cond (leb m 2) (m + 12) m - 457) / 5) (total (lengths leap) (m - 1) + 306)

from_march : (y m : ℕ) → 1 ≤ m → m ≤ 12
    → cond (leb m 2) 0 (year_length y) + (153 * cond (leb m 2) (m + 12) m - 457) / 5 ≡ days_of_months y (m - 1) + 306
unfolding march_test passes total lengths
from_march y m h l = rw (days-total y (m - 1)) (eqb-true _ _ (in_months march_test refl refl (is_leap y) m h l))

-- the days before the year after that of the last March are those before this year, and this year's if March is over
march_years : (y m : ℕ) → 1 ≤ y → days_by_division (cond (leb m 2) (y - 1) y + 1) ≡ days_before_year y + cond (leb m 2) 0 (year_length y)
unfolding days_of_years
march_years zero m h = absurd (omega arith)
march_years (suc y) m h = go (leb m 2)
  where
    go : (early : Bool) → days_by_division (cond early (suc y - 1) (suc y) + 1) ≡ days_before_year (suc y) + cond early 0 (year_length (suc y))
    go true = let z : suc y - 1 + 1 ≡ suc y = omega arith in rw z (omega (arith, days_by_division_lem (suc y)))
    go false =
        let z : suc y + 1 ≡ suc (suc y) = omega arith in
        let a : suc (suc y) - 1 ≡ suc y = omega arith in
        let b : suc y - 1 ≡ y = omega arith in
        rw (z, days_by_division_lem (suc (suc y)), a, b) refl

pub days-from_march : (y m d : ℕ) → InRange y m d
    → days_by_division (cond (leb m 2) (y - 1) y + 1) + (153 * cond (leb m 2) (m + 12) m - 457) / 5 + d ≡ days_before y m d + 307
days-from_march y m d r = omega (arith, march_years y m r.from_year, from_march y m r.from_month r.to_month, r.from_day)

pub march_range : (y m d : ℕ) → InRange y m d
    → (cond (leb m 2) (y - 1) y ≤ 9999) × (3 ≤ cond (leb m 2) (m + 12) m) × (cond (leb m 2) (m + 12) m ≤ 14)
march_range y m d r = go (leb m 2) refl
  where
    go : (early : Bool) → leb m 2 ≡ early → (cond early (y - 1) y ≤ 9999) × (3 ≤ cond early (m + 12) m) × (cond early (m + 12) m ≤ 14)
    go true e = let h = leb-true m 2 e in (omega (arith, r.to_year), omega arith, omega arith)
    go false e = let h = leb-false m 2 e in (r.to_year, omega arith, omega (arith, r.to_month))

-- as the code has it
pub march_sum : (y m d years months before : ℕ) → InRange y m d → years ≡ cond (leb m 2) (y - 1) y → months ≡ cond (leb m 2) (m + 12) m
    → before ≡ days_by_division (years + 1) → before + (153 * months - 457) / 5 + d ≡ days_before y m d + 307
march_sum y m d years months before r a b c = rw (c, a, b) (days-from_march y m d r)

-- every month has 28 days, and only the days after them are asked of its length
least_test : Bool → ℕ → Bool
least_test leap m = leb 28 (get_or (lengths leap) (m - 1) 0)

month_least : (y m : ℕ) → 1 ≤ m → m ≤ 12 → 28 ≤ month_length y m
unfolding month_length lengths least_test passes
month_least y m h l = leb-true 28 _ (in_months least_test refl refl (is_leap y) m h l)

pub first-days : (y m d : ℕ) → is_from 1 12 m ≡ true → is_from 1 28 d ≡ true → is_from 1 (month_length y m) d ≡ true
first-days y m d e f =
    let (a, b) = is_from-true 1 12 m e in
    let (low, high) = is_from-true 1 28 d f in
    rw (le-leb 1 d low, le-leb d (month_length y m) (omega (arith, month_least y m a b))) refl

pub last_days : (n d : ℕ) → is_from 1 28 d ≡ false → is_from 29 n d ≡ is_from 1 n d
last_days n d e = go (leb 1 d) refl (leb d 28) refl
  where
    go : (a : Bool) → leb 1 d ≡ a → (b : Bool) → leb d 28 ≡ b → is_from 29 n d ≡ is_from 1 n d
    go false f b g = rw (f, lt-leb 29 d (omega (arith, leb-false 1 d f))) refl
    go true f false g = rw (f, le-leb 29 d (omega (arith, leb-false d 28 g))) refl
    go true f true g = clash (cc)
