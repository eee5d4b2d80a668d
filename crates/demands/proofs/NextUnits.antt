-- The next unit, as a calendar counts, starts where the length of this one says; up to year 9999 it is a timestamp itself.
use Prim.Native.Nat.{ℕ, suc, ◌+◌, ◌-◌, ◌*◌, ◌≤◌, ◌<◌}
use mathlib.Core.Path.{◌≡◌, refl, ap}
use mathlib.Core.Bool.{Bool, true, false, cond}
use mathlib.Core.List.{List, [], ◌∷◌}
use native.Mathlib.Omega.{arith}
use borrow.Author.Tests.{leb-true, ltb-true, ltb-false, le-leb, lt-ltb}
use lib.Dec.{leb, ltb}
use lib.ListN.{length, get_or, get_or-eq_default}
use Rattle.rules.specs.Basics.{every}
use Rattle.rules.specs.Calendar.{is_leap, year_length, month_lengths, month_length, days_of_months, days_before, minute, hour, day}
use Rattle.rules.specs.Timestamp.{Written, month_of, day_of, hour_of, minute_of, is_date, is_clock, start_of, unit_length}
use Rattle.rules.proofs.Tests.{passes, passed, both_true, is_from-true}
use Rattle.rules.proofs.Calendar.{months_make_year, month_ends}
use Rattle.rules.proofs.Dates.{month_most}
use Rattle.demands.specs.NextUnits.{begun, month_after, day_after, hour_after, minute_after, unit_after, written_after}
use Rattle.demands.proofs.Years.{one_by_one}

-- a month of the calendar in any year, a day of it, a time of day, and the ticks before them
abbrev IsMonth : (y m : ℕ) → Type 0
IsMonth y m = (1 ≤ y) × (1 ≤ m) × (m ≤ 12)

abbrev IsDay : (y m d : ℕ) → Type 0
IsDay y m d = (1 ≤ d) × (d ≤ month_length y m)

abbrev IsTime : (h i : ℕ) → Type 0
IsTime h i = (h ≤ 23) × (i ≤ 59)

abbrev ticks : (y m d h i : ℕ) → ℕ
ticks y m d h i = days_before y m d * day + h * hour + i * minute

is-date : (w : Written) → is_date w ≡ true → IsMonth w.year (month_of w) × IsDay w.year (month_of w) (day_of w)
is-date w e =
    let (f, d) = both_true _ _ e in
    let (y, m) = both_true _ _ f in
    let (ml, mh) = is_from-true 1 12 _ m in
    (((is_from-true 1 9999 _ y).0, ml, mh), is_from-true 1 _ _ d)

is-time : (w : Written) → is_clock w ≡ true → IsTime (hour_of w) (minute_of w)
is-time w e =
    let (f, s) = both_true _ _ e in
    let (h, i) = both_true _ _ f in
    (leb-true _ _ h, leb-true _ _ i)

-- a month has a first day
first-day : (y m : ℕ) → 1 ≤ m → m ≤ 12 → IsDay y m 1
unfolding month_length passes
first-day y m l h = (omega arith, leb-true 1 _ (passed 12 (λ k. leb 1 (get_or (month_lengths y) k 0)) (m - 1) (go (is_leap y)) (omega arith)))
  where
    go : (leap : Bool) → passes 12 (λ k. leb 1 (get_or (31 ∷ cond leap 29 28 ∷ 31 ∷ 30 ∷ 31 ∷ 30 ∷ 31 ∷ 31 ∷ 30 ∷ 31 ∷ 30 ∷ 31 ∷ []) k 0)) ≡ true
    go true = refl
    go false = refl

by_test : (P : ℕ × List ℕ → Type 0) {u v : ℕ × List ℕ} (b : Bool) → (b ≡ true → P u) → (b ≡ false → P v) → P (cond b u v)
by_test P true f g = f refl
by_test P false f g = g refl

-- D says that what is written has a date, C that it has a clock, and t is the tick to be reached
module _ (D C : Type 0) (t : ℕ) where
  -- the numbers of a unit that starts there
  abbrev Starts : (y m d h i : ℕ) → Type 0
  Starts y m d h i = (D → IsMonth y m) × (D → IsDay y m d) × (C → IsTime h i) × (D → C → ticks y m d h i ≡ t)

  -- the unit after each starts there: what holds of every unit that does holds of it
  year-after : (y : ℕ) → (D → 1 ≤ y) → (D → C → ticks y 1 1 0 0 + year_length y * day ≡ t) → Starts (suc y) 1 1 0 0
  unfolding days_of_months
  year-after y l e =
      (λ p. omega arith, λ p. first-day (suc y) 1 (omega arith) (omega arith), λ q. omega arith, λ p q. omega (arith, one_by_one y (l p), e p q))

  module _ (y m : ℕ) (month : D → IsMonth y m) where
    month_after_lem : (P : ℕ × List ℕ → Type 0) → ((z n : ℕ) → Starts z n 1 0 0 → P (z, n ∷ []))
        → (D → C → ticks y m 1 0 0 + month_length y m * day ≡ t) → P (month_after y m)
    unfolding days_of_months
    month_after_lem P k e = by_test P (ltb m 12)
        (λ b.
        let l = ltb-true m 12 b in
        let z : suc m - 1 ≡ m = omega arith in
        k y (suc m) (λ p. omega (arith, month p), λ p. first-day y (suc m) (omega arith) (omega arith), λ q. omega arith, λ p q. omega (arith, e p q, month_ends y m (month p).1, ap (days_of_months y) z)))
        (λ b. k (suc y) 1 (year-after y (λ p. (month p).0) (λ p q.
        let z : m ≡ 12 = omega (arith, month p, ltb-false m 12 b) in
        omega (arith, e p q, month_ends y m (month p).1, ap (days_of_months y) z, months_make_year y))))

    module _ (d : ℕ) (date : D → IsDay y m d) where
      day-after : (P : ℕ × List ℕ → Type 0) → ((z n c : ℕ) → Starts z n c 0 0 → P (z, n ∷ c ∷ []))
          → (D → C → ticks y m d 0 0 + day ≡ t) → P (day_after y m d)
      day-after P k e = by_test P (ltb d (month_length y m))
          (λ b. k y m (suc d) (month, λ p. omega (arith, ltb-true d (month_length y m) b), λ q. omega arith, λ p q. omega (arith, date p, e p q)))
          (λ b. month_after_lem (λ u. P (begun 1 u)) (λ z n. k z n 1) (λ p q. omega (arith, date p, e p q, ltb-false d (month_length y m) b)))

      module _ (h : ℕ) (in_day : C → h ≤ 23) where
        hour-after : (P : ℕ × List ℕ → Type 0) → ((z n c g : ℕ) → Starts z n c g 0 → P (z, n ∷ c ∷ g ∷ []))
            → (D → C → ticks y m d h 0 + hour ≡ t) → P (hour_after y m d h)
        hour-after P k e = by_test P (ltb h 23)
            (λ b. k y m d (suc h) (month, date, λ q. omega (arith, ltb-true h 23 b), λ p q. omega (arith, e p q)))
            (λ b. day-after (λ u. P (begun 0 u)) (λ z n c. k z n c 0) (λ p q. omega (arith, in_day q, e p q, ltb-false h 23 b)))

        minute-after : (P : ℕ × List ℕ → Type 0) → ((z n c g j : ℕ) → Starts z n c g j → P (z, n ∷ c ∷ g ∷ j ∷ []))
            → (i : ℕ) → (C → i ≤ 59) → (D → C → ticks y m d h i + minute ≡ t) → P (minute_after y m d h i)
        minute-after P k i in_hour e = by_test P (ltb i 59)
            (λ b. k y m d h (suc i) (month, date, λ q. omega (arith, in_day q, ltb-true i 59 b), λ p q. omega (arith, e p q)))
            (λ b. hour-after (λ u. P (begun 0 u)) (λ z n c g. k z n c g 0) (λ p q. omega (arith, in_hour q, e p q, ltb-false i 59 b)))

  -- the same of a unit as it is written, in n numbers, where a missing one is the first
  abbrev StartsWritten : (n : ℕ) → ℕ × List ℕ → Type 0
  StartsWritten n (y, ps) = Starts y (get_or ps 0 1) (get_or ps 1 1) (get_or ps 2 0) (get_or ps 3 0) × (get_or ps 4 0 ≡ 0) × (length ps ≡ n)

  unit-after : (y : ℕ) (ps f : List ℕ) → length ps < 5
      → (D → IsMonth y (get_or ps 0 1)) → (D → IsDay y (get_or ps 0 1) (get_or ps 1 1)) → (C → IsTime (get_or ps 2 0) (get_or ps 3 0))
      → (D → C → ticks y (get_or ps 0 1) (get_or ps 1 1) (get_or ps 2 0) (get_or ps 3 0) + unit_length y ps f ≡ t) → StartsWritten (length ps) (unit_after y ps)
  unfolding unit_after unit_length
  unit-after y [] f l a b c e = (year-after y (λ p. (a p).0) e, refl, refl)
  unit-after y (m ∷ []) f l a b c e = month_after_lem y m a (StartsWritten 1) (λ z n s. (s, refl, refl)) e
  unit-after y (m ∷ d ∷ []) f l a b c e = day-after y m a d b (StartsWritten 2) (λ z n c s. (s, refl, refl)) e
  unit-after y (m ∷ d ∷ h ∷ []) f l a b c e = hour-after y m a d b h (λ q. (c q).0) (StartsWritten 3) (λ z n c g s. (s, refl, refl)) e
  unit-after y (m ∷ d ∷ h ∷ i ∷ []) f l a b c e = minute-after y m a d b h (λ q. (c q).0) (StartsWritten 4) (λ z n c g j s. (s, refl, refl)) i (λ q. (c q).1) e
  unit-after y (m ∷ d ∷ h ∷ i ∷ s ∷ r) f l a b c e = absurd (omega arith)

after : (w : Written) → length w.parts < 5 → let start : ℕ = ticks w.year (month_of w) (day_of w) (hour_of w) (minute_of w) in
    StartsWritten (is_date w ≡ true) (is_clock w ≡ true) (start + unit_length w.year w.parts w.fraction) (length w.parts) (unit_after w.year w.parts)
after w l = unit-after _ _ _ w.year w.parts w.fraction l (λ p. (is-date w p).0) (λ p. (is-date w p).1) (is-time w) (λ p q. refl)

pub starts-next : (shift : ℕ) (w : Written) → is_date w ≡ true → is_clock w ≡ true → length w.parts < 5
    → start_of shift (written_after w) ≡ start_of shift w + unit_length w.year w.parts w.fraction
unfolding start_of
starts-next shift w p q l =
    let ((month, date, time, start), no_seconds, many) = after w l in
    omega (arith, start p q, get_or-eq_default w.parts 0 {n = 4} (omega arith))

-- within year 9999 the next unit has a date and a clock too
pub date-after : (w : Written) → is_date w ≡ true → length w.parts < 5 → (written_after w).year ≤ 9999 → is_date (written_after w) ≡ true
date-after w p l yh =
    let ((month, date, time, start), no_seconds, many) = after w l in
    let (yl, ml, mh) = month p in
    let (dl, dh) = date p in
    rw (le-leb _ _ yl, le-leb _ _ yh, le-leb _ _ ml, le-leb _ _ mh, le-leb _ _ dl, le-leb _ _ dh)

pub clock-after : (w : Written) → is_clock w ≡ true → length w.parts < 5 → is_clock (written_after w) ≡ true
clock-after w q l =
    let ((month, date, time, start), no_seconds, many) = after w l in
    let (hh, ih) = time q in
    rw (le-leb _ _ hh, le-leb _ _ ih, no_seconds)

-- it has as many numbers, and those of any possible unit have two digits
pub as_many : (w : Written) → length w.parts < 5 → length (written_after w).parts ≡ length w.parts
as_many w l = (after w l).2

pub two_digits : (w : Written) → is_date w ≡ true → is_clock w ≡ true → length w.parts < 5 → every (λ n. ltb n 100) w.parts ≡ true
unfolding every
two_digits w p q l =
    let (month, date) = is-date w p in
    go w.parts l (omega (arith, month)) (omega (arith, date, month_most w.year (month_of w))) (omega (arith, is-time w q)) (omega (arith, is-time w q))
  where
    go : (ps : List ℕ) → length ps < 5 → get_or ps 0 1 < 100 → get_or ps 1 1 < 100 → get_or ps 2 0 < 100 → get_or ps 3 0 < 100 → every (λ n. ltb n 100) ps ≡ true
    go [] l a b c d = refl
    go (m ∷ []) l a b c d = rw (lt-ltb m 100 a)
    go (m ∷ n ∷ []) l a b c d = rw (lt-ltb m 100 a, lt-ltb n 100 b)
    go (m ∷ n ∷ h ∷ []) l a b c d = rw (lt-ltb m 100 a, lt-ltb n 100 b, lt-ltb h 100 c)
    go (m ∷ n ∷ h ∷ i ∷ []) l a b c d = rw (lt-ltb m 100 a, lt-ltb n 100 b, lt-ltb h 100 c, lt-ltb i 100 d)
    go (m ∷ n ∷ h ∷ i ∷ s ∷ r) l a b c d = absurd (omega arith)
