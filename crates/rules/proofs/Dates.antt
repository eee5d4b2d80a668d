-- A timestamp written of a tick is read as that tick, and a year written alone as that year.
use Prim.Native.Nat.{ℕ, zero, suc, ◌+◌, ◌-◌, ◌*◌, ◌/◌, ◌%◌, ◌^◌, ◌≤◌, ◌<◌}
use mathlib.Core.Path.{◌≡◌, refl, sym, ◌∙◌, ap}
use mathlib.Core.Bool.{Bool, true, false, cond}
use mathlib.Core.List.{List, [], ◌∷◌, ◌++◌, append_assoc, append-nil}
use mathlib.Core.Option.{some}
use native.Mathlib.Nat.{add-zero, mul-one, div-div-eq-div-mul}
use native.Mathlib.Omega.{arith}
use native.Mathlib.Decide.{dec_le}
use borrow.Author.Tests.{leb-true, ltb-true, ltb-false, le-leb}
use lib.Dec.{leb, ltb}
use lib.ListN.{get_or}
use lib.IntN.{pos}
use Rattle.rules.specs.Basics.{every, bytes, is_digit, decimal_from, digits_of}
use Rattle.rules.specs.Refusal.{answered}
use Rattle.rules.specs.Parsers.{bad, ok, one, times, up_to, finish, whole}
use Rattle.rules.specs.Calendar.{is_leap, year_length, month_lengths, month_length, days_of_years, days_of_months, days_before, second, minute, hour, day}
use Rattle.rules.specs.Timestamp.{no_zone, plus, Written, digits, two_digits, point, hours, zone, timestamp, written_faults, before_start, start_of, unit_length, moment_of, read_timestamp}
use Rattle.rules.specs.Dates.{Reached, reached, years_end, year_at, month_at, date_text, clock_text, timestamp_text}
use Rattle.rules.proofs.Tests.{every_true}
use Rattle.rules.proofs.Beginnings.{times-read}
use Rattle.rules.proofs.Digits.{is_digit_lem, digits_of-length, digits_of-digits, digits_of-decimal}
use Rattle.rules.proofs.Calendar.{days_of_years_lem, months_make_year, days_of_months_rise, month_ends}
use Rattle.rules.proofs.Ticks.{read-answered}

-- the unit reached is one of those counted, the days before it and those passed in it are the days given, and it is not passed over
-- where the days given lie in the units counted
record IsReached (length_of sum : ℕ → ℕ) (k f days : ℕ) (r : Reached) : Type 0 where
  before : ℕ
  unit_is : r.unit ≡ suc before
  first : k ≤ before
  last : before ≤ k + f
  days_are : sum before + r.passed ≡ sum k + days
  within : sum k + days < sum (suc (k + f)) → r.passed < length_of (suc before)

module _ (length_of sum : ℕ → ℕ) (step : (k : ℕ) → sum (suc k) ≡ sum k + length_of (suc k)) where
  is-reached : (f k days : ℕ) → IsReached length_of sum k f days (reached length_of f (suc k) days)
  unfolding reached
  is-reached zero k days = record {
    before = k;
    unit_is = refl;
    first = omega arith;
    last = omega arith;
    days_are = refl;
    within = λ h. omega (arith, step k, ap (λ n. sum (suc n)) (add-zero k));
  }
  is-reached (suc f) k days = go (ltb days (length_of (suc k))) refl (is-reached f (suc k) (days - length_of (suc k)))
    where
      go : (b : Bool) → ltb days (length_of (suc k)) ≡ b → IsReached length_of sum (suc k) f (days - length_of (suc k)) (reached length_of f (suc (suc k)) (days - length_of (suc k)))
          → IsReached length_of sum k (suc f) days (cond b (record { unit = suc k; passed = days }) (reached length_of f (suc (suc k)) (days - length_of (suc k))))
      go true e r = record {
        before = k;
        unit_is = refl;
        first = omega arith;
        last = omega arith;
        days_are = refl;
        within = λ h. ltb-true days (length_of (suc k)) e;
      }
      go false e r = record {
        before = r.before;
        unit_is = r.unit_is;
        first = omega (arith, r.first);
        last = omega (arith, r.last);
        days_are = omega (arith, r.days_are, step k, ltb-false days (length_of (suc k)) e);
        within = λ h. r.within (omega (arith, step k, ltb-false days (length_of (suc k)) e, ap (λ n. sum (suc n)) (shift k f)));
      }
        where
          shift : (k f : ℕ) → suc k + f ≡ k + suc f
          shift k f = omega arith

-- years 1 to 9999, and the months of a year
abbrev IsYear : (days : ℕ) → Reached → Type 0
IsYear days r = IsReached year_length days_of_years 0 9998 days r

is-year : (days : ℕ) → IsYear days (year_at days)
unfolding year_at days_of_years
is-year days = is-reached year_length days_of_years (λ k. refl) 9998 0 days

is_month : (days : ℕ) → let y = (year_at days).unit in IsReached (month_length y) (days_of_months y) 0 11 (year_at days).passed (month_at days)
unfolding month_at days_of_months
is_month days = let y = (year_at days).unit in is-reached (month_length y) (days_of_months y) (λ k. refl) 11 0 (year_at days).passed

-- the first tick after year 9999
pub years-end : years_end ≡ 3_652_059 * day
unfolding years_end
years-end = omega (arith, days_of_years_lem 9999)

-- what holds of the date found
pub record IsDateOf (days y m d : ℕ) : Type 0 where
  pub year_low : 1 ≤ y
  pub year_high : y ≤ 9999
  pub month_low : 1 ≤ m
  pub month_high : m ≤ 12
  pub day_low : 1 ≤ d
  pub day_high : d ≤ month_length y m
  pub days_are : days_before y m d ≡ days

pub date_of : (days : ℕ) → days < 3_652_059 → IsDateOf days (year_at days).unit (month_at days).unit (suc (month_at days).passed)
unfolding days_of_years days_of_months
date_of days h = go (year_at days) (month_at days) (is-year days) (is_month days)
  where
    go : (y m : Reached) → IsYear days y → IsReached (month_length y.unit) (days_of_months y.unit) 0 11 y.passed m → IsDateOf days y.unit m.unit (suc m.passed)
    go y m a b =
        let z : y.unit - 1 ≡ a.before = omega (arith, a.unit_is) in
        let w : m.unit - 1 ≡ b.before = omega (arith, b.unit_is) in
        let in_year : y.passed < year_length y.unit = rw a.unit_is (a.within (omega (arith, days_of_years_lem 9999))) in
        let in_month : m.passed < month_length y.unit m.unit = rw b.unit_is (b.within (omega (arith, months_make_year y.unit))) in
        record {
          year_low = omega (arith, a.unit_is);
          year_high = omega (arith, a.unit_is, a.last);
          month_low = omega (arith, b.unit_is);
          month_high = omega (arith, b.unit_is, b.last);
          day_low = omega arith;
          day_high = omega arith;
          days_are = rw (z, w) (omega (arith, a.days_are, b.days_are));
        }

-- a number of n digits is read
pub digits-read : (n k : ℕ) (r : List ℕ) → k < 10 ^ n → digits n (digits_of n k ++ r) ≡ ok k r
unfolding digits
digits-read n k r h =
    let t : times n is_digit (digits_of n k ++ r) ≡ ok (digits_of n k) r = rw (digits_of-length n k) at (times-read is_digit (digits_of n k) r (digits_of-digits n k)) in
    rw (t, digits_of-decimal n k h)

nothing_read : digits 2 [] ≡ bad
unfolding digits times one
nothing_read = refl

point-read : (k : ℕ) (r : List ℕ) → point (46 ∷ digits_of 4 k ++ r) ≡ ok (digits_of 4 k) r
unfolding point digits_of up_to one
point-read k r = rw (is_digit_lem (k / 10 / 10 / 10), is_digit_lem (k / 10 / 10), is_digit_lem (k / 10), is_digit_lem k)

zone-read : zone (bytes "+0000") ≡ ok (plus 0 0) []
unfolding zone hours digits times one decimal_from
zone-read = refl

module _ (y m d h i s f : ℕ) where
  -- the numbers of a full timestamp, and its text
  abbrev fully : Written
  fully = record { year = y; parts = m ∷ d ∷ h ∷ i ∷ s ∷ []; fraction = digits_of 4 f; zone = plus 0 0 }

  abbrev full_text : List ℕ
  full_text = digits_of 4 y ++ (digits_of 2 m ++ (digits_of 2 d ++ (digits_of 2 h ++ (digits_of 2 i ++ (digits_of 2 s ++ (46 ∷ digits_of 4 f ++ bytes "+0000"))))))

  full-read : y ≤ 9999 → m ≤ 99 → d ≤ 99 → h ≤ 99 → i ≤ 99 → s ≤ 99 → whole timestamp full_text ≡ some fully
  unfolding timestamp two_digits finish
  full-read ly lm ld lh li ls =
      rw (digits-read 4 y _ (omega arith), digits-read 2 m _ (omega arith), digits-read 2 d _ (omega arith), digits-read 2 h _ (omega arith), digits-read 2 i _ (omega arith), digits-read 2 s _ (omega arith), point-read f _, zone-read)

  -- nothing in it is impossible
  full-possible : {days : ℕ} → IsDateOf days y m d → h ≤ 23 → i ≤ 59 → s ≤ 59 → written_faults fully ≡ []
  unfolding written_faults
  full-possible q lh li ls =
      rw (le-leb 1 y q.year_low, le-leb y 9999 q.year_high, le-leb 1 m q.month_low, le-leb m 12 q.month_high, le-leb 1 d q.day_low, le-leb d (month_length y m) q.day_high, le-leb h 23 lh, le-leb i 59 li, le-leb s 59 ls)

get_d_most : (b : ℕ) (l : List ℕ) (n : ℕ) → every (λ x. leb x b) l ≡ true → get_or l n 0 ≤ b
get_d_most b [] n h = omega arith
get_d_most b (x ∷ l) zero h = leb-true x b (every_true (λ x. leb x b) x l h).0
get_d_most b (x ∷ l) (suc n) h = get_d_most b l n (every_true (λ x. leb x b) x l h).1

pub month_most : (y m : ℕ) → month_length y m ≤ 31
unfolding month_length every
month_most y m = get_d_most 31 (month_lengths y) (m - 1) (go (is_leap y))
  where
    go : (leap : Bool) → every (λ x. leb x 31) (31 ∷ cond leap 29 28 ∷ 31 ∷ 30 ∷ 31 ∷ 30 ∷ 31 ∷ 31 ∷ 30 ∷ 31 ∷ 30 ∷ 31 ∷ []) ≡ true
    go true = refl
    go false = refl

text-full : (t : ℕ) → timestamp_text (pos t)
    ≡ full_text (year_at (t / day)).unit (month_at (t / day)).unit (suc (month_at (t / day)).passed) (t % day / hour) (t % day / minute % 60) (t % day / second % 60) (t % day % second)
unfolding date_text clock_text
text-full t = simp append_assoc

-- the parts of a clock add up
clock-sum : (r : ℕ) → r / hour * hour + r / minute % 60 * minute + r / second % 60 * second + r % second ≡ r
clock-sum r = omega (arith, div-div-eq-div-mul r minute 60, div-div-eq-div-mul r second 60)

-- the moment that a full timestamp says
full_moment : (shift days y m d h i s f : ℕ) → IsDateOf days y m d → f < 10_000
    → moment_of shift (fully y m d h i s f)
    ≡ record { start = days * day + h * hour + i * minute + s * second + f + before_start; precision = 18; next = days * day + h * hour + i * minute + s * second + f + before_start + 1 }
unfolding start_of unit_length
full_moment shift days y m d h i s f q l =
    rw (q.days_are, digits_of-length 4 f, digits_of-decimal 4 f (omega arith), mul-one f)

-- a tick of years 0001 to 9999, written as a timestamp, is read as that tick, whatever the offset agreed
pub timestamp_of_tick : (shift t : ℕ) → t < years_end → read_timestamp shift (timestamp_text (pos t)) ≡ answered (record { start = t + before_start; precision = 18; next = t + before_start + 1 })
timestamp_of_tick shift t l =
    let days = t / day in
    let q = date_of days (omega (arith, years-end)) in
    let y = (year_at days).unit in
    let m = (month_at days).unit in
    let d = suc (month_at days).passed in
    let h = t % day / hour in
    let i = t % day / minute % 60 in
    let s = t % day / second % 60 in
    let f = t % day % second in
    let e : days * day + h * hour + i * minute + s * second + f ≡ t = omega (arith, clock-sum (t % day)) in
    rw (text-full t) ((read-answered shift (full_text y m d h i s f) _).1 (
      fully y m d h i s f,
      full-read y m d h i s f q.year_high (omega (arith, q.month_high)) (omega (arith, q.day_high, month_most y m)) (omega arith) (omega arith) (omega arith),
      full-possible y m d h i s f q (omega arith) (omega arith) (omega arith),
      full_moment shift days y m d h i s f q (omega arith) ∙ rw e refl,
    ))

-- a year written alone
module _ (y : ℕ) where
  abbrev alone : Written
  alone = record { year = y; parts = []; fraction = []; zone = no_zone }

  alone_read : y ≤ 9999 → whole timestamp (digits_of 4 y) ≡ some alone
  unfolding timestamp two_digits finish
  alone_read h = rw (← append-nil (digits_of 4 y), digits-read 4 y [] (omega arith), nothing_read)

  alone_possible : 1 ≤ y → y ≤ 9999 → written_faults alone ≡ []
  unfolding written_faults month_length
  alone_possible l h = rw (le-leb 1 y l, le-leb y 9999 h)

pub year_alone : (shift y : ℕ) → 1 ≤ y → y ≤ 9999
    → read_timestamp shift (digits_of 4 y) ≡ answered (moment_of shift (record { year = y; parts = []; fraction = []; zone = no_zone }))
year_alone shift y l h = (read-answered shift (digits_of 4 y) _).1 (alone y, alone_read y h, alone_possible y l h, refl)

-- There is one date only of so many days, so whatever way finds a date of them finds this one.

module _ (length_of sum : ℕ → ℕ) (step : (k : ℕ) → sum (suc k) ≡ sum k + length_of (suc k)) where
  sum_rise : (j k : ℕ) → j ≤ k → sum j ≤ sum k
  sum_rise j zero h = let z : j ≡ 0 = omega arith in rw z (omega arith)
  sum_rise j (suc k) h = go (dec_le j k) (sum_rise j k)
    where
      go : Dec (j ≤ k) → (j ≤ k → sum j ≤ sum k) → sum j ≤ sum (suc k)
      go (yes l) below = omega (arith, below l, step k)
      go (no l) below = let z : j ≡ suc k = omega arith in rw z (omega arith)

  -- of two units that hold one day neither is before the other
  unit-least : (j k p q : ℕ) → p < length_of (suc j) → sum j + p ≡ sum k + q → k ≤ j
  unit-least j k p q h e = go (dec_le k j)
    where
      go : Dec (k ≤ j) → k ≤ j
      go (yes l) = l
      go (no l) = absurd (omega (arith, sum_rise (suc j) k (omega arith), step j))

  unit_unique : (j k p q : ℕ) → p < length_of (suc j) → q < length_of (suc k) → sum j + p ≡ sum k + q → (j ≡ k) × (p ≡ q)
  unit_unique j k p q h i e =
      let z : j ≡ k = omega (arith, unit-least j k p q h e, unit-least k j q p i (sym e)) in
      (z, omega (arith, ap sum z))

year-holds : (days y m d : ℕ) → IsDateOf days y m d → days_of_months y (m - 1) + (d - 1) < year_length y
year-holds days y m d q = omega (arith, q.day_low, q.day_high, month_ends y m q.month_low, days_of_months_rise y m 12 q.month_high, months_make_year y)

pub date_unique : (days y m d z n c : ℕ) → IsDateOf days y m d → IsDateOf days z n c → (y ≡ z) × (m ≡ n) × (d ≡ c)
unfolding days_of_years days_of_months
date_unique days y m d z n c a b =
    let s : suc (y - 1) ≡ y = omega (arith, a.year_low) in
    let t : suc (z - 1) ≡ z = omega (arith, b.year_low) in
    let (e, f) = unit_unique year_length days_of_years (λ k. refl) (y - 1) (z - 1) (days_of_months y (m - 1) + (d - 1)) (days_of_months z (n - 1) + (c - 1))
    (rw s (year-holds days y m d a)) (rw t (year-holds days z n c b)) (omega (arith, a.days_are, b.days_are)) in
    let same : z ≡ y = omega arith in
    let k : IsDateOf days y n c = rw same at b in
    let u : suc (m - 1) ≡ m = omega (arith, a.month_low) in
    let v : suc (n - 1) ≡ n = omega (arith, k.month_low) in
    let (g, h) = unit_unique (month_length y) (days_of_months y) (λ k. refl) (m - 1) (n - 1) (d - 1) (c - 1)
    (rw u (omega (arith, a.day_low, a.day_high))) (rw v (omega (arith, k.day_low, k.day_high))) (omega (arith, a.days_are, k.days_are)) in
    (omega arith, omega arith, omega (arith, a.day_low, k.day_low))
