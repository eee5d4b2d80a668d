-- The ranges of dates, clocks, offsets and units.
use Prim.Native.Nat.{ℕ, zero, suc, ◌+◌, ◌-◌, ◌*◌, ◌^◌, ◌≤◌}
use mathlib.Core.Path.{◌≡◌, refl}
use mathlib.Core.Bool.{Bool, true, false, ◌&&◌, cond}
use mathlib.Core.List.{List, [], ◌∷◌}
use native.Mathlib.Nat.{pow-le-pow_right}
use native.Mathlib.Omega.{arith}
use borrow.Author.Tests.{leb-true}
use lib.Dec.{leb}
use lib.ListN.{length, get_or}
use Rattle.rules.specs.Basics.{every, is_from}
use Rattle.rules.specs.Calendar.{is_leap, year_length, month_lengths, month_length, days_before}
use Rattle.rules.specs.Timestamp.{is_offset_time, unit_length}
use Rattle.rules.proofs.Tests.{both_true, is_from-true, every_true}
use Rattle.rules.proofs.Calendar.{days_of_years-most, months_in_year}
use Rattle.timestamp.specs.Moments.{InRange, is_date_of, is_clock_of, unit_ticks}

entry_most : (n : ℕ) (l : List ℕ) (i : ℕ) → every (λ x. leb x n) l ≡ true → get_or l i 0 ≤ n
unfolding every
entry_most n [] i e = omega arith
entry_most n (x ∷ l) zero e = leb-true x n (every_true (λ y. leb y n) x l e).0
entry_most n (x ∷ l) (suc i) e = entry_most n l i (every_true (λ y. leb y n) x l e).1

pub month_most : (y m : ℕ) → month_length y m ≤ 31
unfolding month_length every
month_most y m = entry_most 31 (month_lengths y) (m - 1) (go (is_leap y))
  where
    go : (leap : Bool) → every (λ x. leb x 31) (31 ∷ cond leap 29 28 ∷ 31 ∷ 30 ∷ 31 ∷ 30 ∷ 31 ∷ 31 ∷ 30 ∷ 31 ∷ 30 ∷ 31 ∷ []) ≡ true
    go true = refl
    go false = refl

-- what the tests say
pub date-range : (y m d : ℕ) → is_date_of y m d ≡ true → InRange y m d
date-range y m d e =
    let (ym, dd) = both_true (is_from 1 9999 y && is_from 1 12 m) (is_from 1 (month_length y m) d) e in
    let (yy, mm) = both_true (is_from 1 9999 y) (is_from 1 12 m) ym in
    let a = is_from-true 1 9999 y yy in
    let b = is_from-true 1 12 m mm in
    let c = is_from-true 1 (month_length y m) d dd in
    record { from_year = a.0; to_year = a.1; from_month = b.0; to_month = b.1; from_day = c.0; to_day = omega (arith, month_most y m) }

pub clock-range : (h m s : ℕ) → is_clock_of h m s ≡ true → (h ≤ 23) × (m ≤ 59) × (s ≤ 59)
clock-range h m s e =
    let (hm, ss) = both_true (leb h 23 && leb m 59) (leb s 59) e in
    let (hh, mm) = both_true (leb h 23) (leb m 59) hm in
    (leb-true h 23 hh, leb-true m 59 mm, leb-true s 59 ss)

pub offset-most : (h m : ℕ) → is_offset_time h m ≡ true → 60 * h + m ≤ 840
offset-most h m e = leb-true (60 * h + m) 840 (both_true (leb m 59) (leb (60 * h + m) 840) e).1

-- the days before a date in range
pub days-most : (y m d : ℕ) → InRange y m d → days_before y m d ≤ 3_652_089
days-most y m d r =
    let k = months_in_year y (m - 1) r.from_year (omega (arith, r.to_month)) in
    omega (arith, days_of_years-most y r.to_year, r.to_day)

pub year-most : (y : ℕ) → year_length y ≤ 366
year-most y = go (is_leap y)
  where
    go : (leap : Bool) → cond leap 366 365 ≤ 366
    go true = omega arith
    go false = omega arith

-- units, by the parts written
pub unit_is : (y : ℕ) (l f : List ℕ) → unit_length y l f ≡ unit_ticks y (get_or l 0 1) (length l) (length f)
unfolding unit_length unit_ticks
unit_is y [] f = refl
unit_is y (m ∷ []) f = refl
unit_is y (m ∷ d ∷ []) f = refl
unit_is y (m ∷ d ∷ h ∷ []) f = refl
unit_is y (m ∷ d ∷ h ∷ i ∷ []) f = refl
unit_is y (m ∷ d ∷ h ∷ i ∷ s ∷ more) f = refl

pub digit_most : (d : ℕ) → 10 ^ (4 - d) ≤ 10_000
digit_most d = pow-le-pow_right {n = 10} (omega arith) {i = 4 - d} {j = 4} (omega arith)

pub only_four : (d : ℕ) → d ≤ 4 → (d ≡ 0 → ⊥) → (d ≡ 1 → ⊥) → (d ≡ 2 → ⊥) → (d ≡ 3 → ⊥) → d ≡ 4
only_four zero h a b c e = absurd (a refl)
only_four (suc zero) h a b c e = absurd (b refl)
only_four (suc (suc zero)) h a b c e = absurd (c refl)
only_four (suc (suc (suc zero))) h a b c e = absurd (e refl)
only_four (suc (suc (suc (suc zero)))) h a b c e = refl
only_four (suc (suc (suc (suc (suc d))))) h a b c e = absurd (omega arith)
