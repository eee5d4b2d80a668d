-- Ticks of one offset rise with their written digits.
use Prim.Native.Nat.{ℕ, zero, suc, ◌+◌, ◌-◌, ◌*◌, ◌≤◌, ◌<◌}
use mathlib.Core.Path.{◌≡◌, ap}
use mathlib.Core.Logic.{◌⊎◌, inl, inr}
use mathlib.Core.List.{List, [], ◌∷◌}
use mathlib.Core.Option.{some}
use native.Mathlib.Nat.{one-le-pow}
use native.Mathlib.Decide.{dec_le}
use native.Mathlib.Omega.{arith}
use lib.ListN.{length}
use Rattle.rules.specs.Parsers.{whole}
use Rattle.rules.specs.Calendar.{days_of_years, days_before, second, minute, hour}
use Rattle.rules.specs.Timestamp.{Written, timestamp, month_of, day_of, hour_of, minute_of, second_of, ten_thousandths, written_faults, shift_of, start_of}
use Rattle.rules.proofs.Parsers.{whole-ok}
use Rattle.rules.proofs.Calendar.{days_of_months_rise, month_ends}
use Rattle.rules.proofs.Ticks.{Form, form, Possible, possible, fraction_in_second, month_in_years}

-- the numbers that are written, from the year to the fraction; missing ones take their first value
abbrev pub numbers_of : Written → List ℕ
numbers_of w = w.year ∷ month_of w ∷ day_of w ∷ hour_of w ∷ minute_of w ∷ second_of w ∷ ten_thousandths w.fraction ∷ []

-- the first number that differs is less
abbrev pub Less : List ℕ → List ℕ → Type 0
Less [] l = ⊥
Less (a ∷ k) [] = ⊥
Less (a ∷ k) (b ∷ l) = (a < b) ⊎ ((a ≡ b) × Less k l)

years_rise : (m n : ℕ) → m ≤ n → days_of_years m ≤ days_of_years n
unfolding days_of_years
years_rise m zero h = let z : m ≡ 0 = omega arith in rw z (omega arith)
years_rise m (suc n) h = go (dec_le m n) (years_rise m n)
  where
    go : Dec (m ≤ n) → (m ≤ n → days_of_years m ≤ days_of_years n) → days_of_years m ≤ days_of_years (suc n)
    go (yes l) below = omega (arith, below l)
    go (no l) below = let z : m ≡ suc n = omega arith in rw z (omega arith)

-- the days before a later date are more
days_rise : (w v : Written) → Possible w → Less (w.year ∷ month_of w ∷ day_of w ∷ []) (v.year ∷ month_of v ∷ day_of v ∷ [])
    → days_before w.year (month_of w) (day_of w) < days_before v.year (month_of v) (day_of v)
days_rise w v p (inl y) = omega (arith, month_in_years w p, p.day_high, p.day_low, years_rise w.year (v.year - 1) (omega arith))
days_rise w v p (inr h) = by_month h
  where
    by_day : (w.year ≡ v.year) → (month_of w ≡ month_of v) → Less (day_of w ∷ []) (day_of v ∷ [])
        → days_before w.year (month_of w) (day_of w) < days_before v.year (month_of v) (day_of v)
    by_day y m (inl d) = rw (y, m) (omega (arith, p.day_low))
    by_day y m (inr k) = absurd k.1

    by_month : (w.year ≡ v.year) × Less (month_of w ∷ day_of w ∷ []) (month_of v ∷ day_of v ∷ [])
        → days_before w.year (month_of w) (day_of w) < days_before v.year (month_of v) (day_of v)
    by_month k = elim k.1 [
      | inl m ↦ rw (← k.0)
          (omega (arith, p.day_high, p.day_low, month_ends w.year (month_of w) p.month_low, days_of_months_rise w.year (month_of w) (month_of v - 1) (omega arith)))
      | inr m ↦ by_day k.0 m.0 m.1
    ]

abbrev clock : Written → ℕ
clock w = hour_of w * hour + minute_of w * minute + second_of w * second + ten_thousandths w.fraction

abbrev clock_numbers : Written → List ℕ
clock_numbers w = hour_of w ∷ minute_of w ∷ second_of w ∷ ten_thousandths w.fraction ∷ []

fraction_most : (w : Written) → Form w → ten_thousandths w.fraction < second
fraction_most w c = omega (arith, fraction_in_second w.fraction c.fraction_most c.fraction_digits, one-le-pow (4 - length w.fraction) 10 (omega arith))

-- a later time of the day is more
clock_rise : (w v : Written) → Possible w → ten_thousandths w.fraction < second → Less (clock_numbers w) (clock_numbers v) → clock w < clock v
clock_rise w v p f (inl h) = omega (arith, p.minute_high, p.second_high)
clock_rise w v p f (inr h) = elim h.1 [
  | inl m ↦ omega (arith, h.0, m, p.second_high)
  | inr m ↦ elim m.1 [
    | inl s ↦ omega (arith, h.0, m.0, s)
    | inr s ↦ elim s.1 [
      | inl k ↦ omega (arith, h.0, m.0, s.0, k)
      | inr k ↦ absurd k.1
    ]
  ]
]

-- dates first, then times of the day
date-or-clock : (w v : Written) → Less (numbers_of w) (numbers_of v)
    → Less (w.year ∷ month_of w ∷ day_of w ∷ []) (v.year ∷ month_of v ∷ day_of v ∷ [])
    ⊎ ((w.year ≡ v.year) × (month_of w ≡ month_of v) × (day_of w ≡ day_of v) × Less (clock_numbers w) (clock_numbers v))
date-or-clock w v (inl y) = inl (inl y)
date-or-clock w v (inr h) = elim h.1 [
  | inl m ↦ inl (inr (h.0, inl m))
  | inr m ↦ elim m.1 [
    | inl d ↦ inl (inr (h.0, inr (m.0, inl d)))
    | inr d ↦ inr (h.0, m.0, d.0, d.1)
  ]
]

rise : (shift : ℕ) (w v : Written) → Form w → Possible w → w.zone ≡ v.zone → Less (numbers_of w) (numbers_of v) → start_of shift w < start_of shift v
unfolding start_of
rise shift w v c p z h = elim (date-or-clock w v h) [
  | inl d ↦ omega (arith, days_rise w v p d, p.hour_high, p.minute_high, p.second_high, fraction_most w c, ap (shift_of shift) z)
  | inr k ↦ rw (k.0, k.1, k.2) (omega (arith, clock_rise w v p (fraction_most w c) k.3, ap (shift_of shift) z))
]

-- of two texts with one offset, written or agreed, the one whose digits come first has the earlier tick
pub ticks_rise : (shift : ℕ) (a b : List ℕ) (w v : Written) → whole timestamp a ≡ some w → whole timestamp b ≡ some v → written_faults w ≡ []
    → w.zone ≡ v.zone → Less (numbers_of w) (numbers_of v) → start_of shift w < start_of shift v
ticks_rise shift a b w v e f g z h = rise shift w v (form a (whole-ok timestamp a e)) (possible w g) z h
