-- The calendar in closed form: the days of the years up to one, and of the months of one.
use Prim.Native.Nat.{ℕ, zero, suc, ◌+◌, ◌-◌, ◌*◌, ◌/◌, ◌%◌, ◌≤◌, ◌<◌}
use mathlib.Core.Path.{◌≡◌, refl, ap}
use mathlib.Core.Bool.{Bool, true, false, not, ◌&&◌, ◌||◌, cond, false≢true}
use native.Mathlib.Nat.{div-add-mod', div-eq_of_lt-le, mod-lt, add-mul}
use native.Mathlib.Numerals.{add-one}
use native.Mathlib.Omega.{arith}
use native.Mathlib.Decide.{dec_le}
use borrow.Author.Tests.{eqb-true, eqb-false, eq-eqb}
use lib.Dec.{eqb}
use Rattle.rules.specs.Calendar.{is_leap, year_length, month_length, days_of_years, days_of_months, days_before_year, days_by_division}

-- a quotient goes up by one where the number reaches a multiple
quotient_suc : (k n : ℕ) → 0 < k → suc n / k ≡ n / k + cond (eqb (suc n % k) 0) 1 0
quotient_suc k n h = go _ refl (suc n / k) (div-add-mod' (suc n) k)
  where
    go : (b : Bool) → eqb (suc n % k) 0 ≡ b → (q : ℕ) → q * k + suc n % k ≡ suc n → q ≡ n / k + cond b 1 0
    go true e zero d = absurd (omega (arith, eqb-true (suc n % k) 0 e))
    go true e (suc q) d =
        let f : suc q * k ≡ q * k + k = omega (arith, add-mul q 1 k, ap (λ x. x * k) (add-one q)) in
        let r : suc n % k ≡ 0 = eqb-true (suc n % k) 0 e in
        let z : n / k ≡ q = div-eq_of_lt-le k (omega arith) (omega (arith, add-mul q 1 k)) in
        omega arith
    go false e q d =
        let z : n / k ≡ q = div-eq_of_lt-le k (omega (arith, eqb-false (suc n % k) 0 e)) (omega (arith, mod-lt (suc n) h, add-mul q 1 k)) in
        omega arith

leap_step : (n d a b c : ℕ) (x y z : Bool) → (y ≡ true → x ≡ true) → (z ≡ true → y ≡ true) → d + b ≡ 365 * n + a + c
    → d + cond (x && (not y || z)) 366 365 + (b + cond y 1 0) ≡ 365 * suc n + (a + cond x 1 0) + (c + cond z 1 0)
leap_step n d a b c true true true f g h = omega arith
leap_step n d a b c true true false f g h = omega arith
leap_step n d a b c true false true f g h = absurd (false≢true (g refl))
leap_step n d a b c true false false f g h = omega arith
leap_step n d a b c false true z f g h = absurd (false≢true (f refl))
leap_step n d a b c false false true f g h = absurd (false≢true (g refl))
leap_step n d a b c false false false f g h = omega arith

-- the days of years 1 to n
pub days_of_years_lem : (n : ℕ) → days_of_years n + n / 100 ≡ 365 * n + n / 4 + n / 400
unfolding days_of_years
days_of_years_lem zero = refl
days_of_years_lem (suc n) =
    rw (quotient_suc 4 n (omega arith), quotient_suc 100 n (omega arith), quotient_suc 400 n (omega arith))
    (leap_step n (days_of_years n) (n / 4) (n / 100) (n / 400) _ _ _
    (λ e. eq-eqb (suc n % 4) 0 (omega (arith, eqb-true (suc n % 100) 0 e)))
    (λ e. eq-eqb (suc n % 100) 0 (omega (arith, eqb-true (suc n % 400) 0 e)))
    (days_of_years_lem n))

pub days-before-year : (y : ℕ) → days_before_year y + (y - 1) / 100 ≡ 365 * (y - 1) + (y - 1) / 4 + (y - 1) / 400
days-before-year y = days_of_years_lem (y - 1)

-- request A3: for every year, and so for 0001 to 10000
pub days_by_division_lem : (y : ℕ) → days_by_division y ≡ days_before_year y
days_by_division_lem y = omega (arith, days-before-year y)

-- the days of years 1 to 9999, and those before the last of them
pub days_of_years-most : (n : ℕ) → n ≤ 9999 → days_of_years n ≤ 3_652_059
days_of_years-most n h = omega (arith, days_of_years_lem n)

pub days-before-year-most : (y : ℕ) → y ≤ 9999 → days_before_year y ≤ 3_651_694
days-before-year-most y h = omega (arith, days-before-year y)

pub year-least : (y : ℕ) → 365 ≤ year_length y
year-least y = go (is_leap y)
  where
    go : (leap : Bool) → 365 ≤ cond leap 366 365
    go true = omega arith
    go false = omega arith

pub months_make_year : (y : ℕ) → days_of_months y 12 ≡ year_length y
unfolding days_of_months month_length
months_make_year y = go (is_leap y)
  where
    go : (leap : Bool) → 31 + cond leap 29 28 + 31 + 30 + 31 + 30 + 31 + 31 + 30 + 31 + 30 + 31 ≡ cond leap 366 365
    go true = refl
    go false = refl

pub days_of_months_rise : (y m n : ℕ) → m ≤ n → days_of_months y m ≤ days_of_months y n
unfolding days_of_months
days_of_months_rise y m zero h = let z : m ≡ 0 = omega arith in rw z (omega arith)
days_of_months_rise y m (suc n) h = go (dec_le m n) (days_of_months_rise y m n)
  where
    go : Dec (m ≤ n) → (m ≤ n → days_of_months y m ≤ days_of_months y n) → days_of_months y m ≤ days_of_months y (suc n)
    go (yes l) below = omega (arith, below l)
    go (no l) below = let z : m ≡ suc n = omega arith in rw z (omega arith)

-- a year's months, up to any of them, lie in the years up to it
pub months_in_year : (y m : ℕ) → 1 ≤ y → m ≤ 12 → days_before_year y + days_of_months y m ≤ days_of_years y
unfolding days_of_years
months_in_year zero m h l = absurd (omega arith)
months_in_year (suc y) m h l =
    let z : suc y - 1 ≡ y = omega arith in
    rw z (omega (arith, days_of_months_rise (suc y) m 12 l, months_make_year (suc y)))

-- the days before a month and those of the month are the days up to the next
pub month_ends : (y m : ℕ) → 1 ≤ m → days_of_months y (m - 1) + month_length y m ≡ days_of_months y m
unfolding days_of_months
month_ends y zero h = absurd (omega arith)
month_ends y (suc m) h = let z : suc m - 1 ≡ m = omega arith in rw z
