-- Whatever meets demand 2 keeps request A3's promise.
use Prim.Native.Nat.{ℕ, zero, suc, ◌+◌, ◌-◌, ◌*◌, ◌/◌, ◌^◌, ◌≤◌, ◌<◌}
use mathlib.Core.Path.{◌≡◌, refl, sym, ◌∙◌, ap}
use mathlib.Core.List.{List, [], append_assoc}
use mathlib.Core.Option.{some}
use native.Mathlib.Omega.{arith}
use borrow.Author.Tests.{le-ltb}
use lib.ListN.{length, take}
use lib.Seq.{take_at}
use lib.IntN.{ℤ, pos}
use Rattle.rules.specs.Basics.{decimal_from, digits_of}
use Rattle.rules.specs.Calendar.{year_length, days_of_years, days_of_months, days_before_year, days_by_division, minute, day}
use Rattle.rules.specs.Timestamp.{no_zone, Written, timestamp, shift_of, tick_at, start_of, unit_length, Moment, moment_of, read_timestamp}
use Rattle.rules.specs.Refusal.{answered}
use Rattle.rules.specs.Parsers.{whole}
use Rattle.rules.specs.Dates.{year_at, date_text, timestamp_text}
use Rattle.rules.proofs.Digits.{digits_of-length}
use Rattle.rules.proofs.Calendar.{days_by_division_lem, months_in_year, month_ends}
use Rattle.rules.proofs.Ticks.{read-answered}
use Rattle.rules.proofs.TickOrder.{tick-from-start}
use Rattle.rules.proofs.Dates.{IsDateOf, date_of, year_alone}
use Rattle.demands.specs.Services.{Services}
use Rattle.demands.specs.Years.{ticks_in_year, IsYearOf, YearsPromise}
use Rattle.demands.specs.Demands.{time_faults, Demand2}

-- a year's length for each step
pub one_by_one : (y : ℕ) → 1 ≤ y → days_before_year (suc y) ≡ days_before_year y + year_length y
unfolding days_of_years
one_by_one zero h = absurd (omega arith)
one_by_one (suc y) h =
    let z : suc y - 1 ≡ y = omega arith in
    let w : suc (suc y) - 1 ≡ suc y = omega arith in
    rw (w, z)

none_before : days_before_year 1 ≡ 0
unfolding days_of_years
none_before = refl

-- the start of what is written, its year begun where division says
start_of_lem : (shift : ℕ) (w : Written) → start_of shift w ≡ days_by_division w.year * day + ticks_in_year w + shift_of shift w.zone * minute
unfolding start_of
start_of_lem shift w = omega (arith, days_by_division_lem w.year)

starts : (shift : ℕ) (text : List ℕ) (m : Moment) → read_timestamp shift text ≡ answered m
    → (w : Written) × (whole timestamp text ≡ some w) × (m.start ≡ days_by_division w.year * day + ticks_in_year w + shift_of shift w.zone * minute)
starts shift text m e = let (w, f, g, h) = (read-answered shift text m).0 e in (w, f, ap (λ n. n.start) (sym h) ∙ start_of_lem shift w)

-- a year written alone, from its start to the next one's
abbrev alone : ℕ → Written
alone y = record { year = y; parts = []; fraction = []; zone = no_zone }

year-starts : (shift y : ℕ) → start_of shift (alone y) ≡ days_by_division y * day + shift * minute
unfolding days_of_months decimal_from
year-starts shift y = start_of_lem shift (alone y) ∙ omega arith

next_of : (shift y : ℕ) → 1 ≤ y → (moment_of shift (alone y)).next ≡ days_by_division (suc y) * day + shift * minute
unfolding unit_length
next_of shift y h = omega (arith, year-starts shift y, days_by_division_lem y, days_by_division_lem (suc y), one_by_one y h)

year_ends : (shift y : ℕ) (m : Moment) → 1 ≤ y → y ≤ 9999 → read_timestamp shift (digits_of 4 y) ≡ answered m
    → m.next ≡ days_by_division (suc y) * day + shift * minute
year_ends shift y m l h e =
    let z : moment_of shift (alone y) ≡ m = cc (year_alone shift y l h, e) in
    ap (λ n. n.next) (sym z) ∙ next_of shift y l

-- a tick lies from the start of day a up to that of day b where its day does
within-days : (a b t : ℕ) → a ≤ t / day → t / day < b → (a * day ≤ t) × (t < b * day)
within-days a b t h l = (omega arith, omega arith)

-- the year of a tick's date begins at the tick or before it, and the next after it
year_of : (t y m d : ℕ) → IsDateOf (t / day) y m d → IsYearOf y t
year_of t y m d q =
    let z : days_before_year (suc y) ≡ days_of_years y = ap days_of_years (omega arith) in
    let begun : days_by_division y ≤ t / day = omega (arith, q.days_are, days_by_division_lem y) in
    let in_year = months_in_year y m q.year_low q.month_high in
    let not_over : t / day < days_by_division (suc y) = omega (arith, q.days_are, q.day_low, q.day_high, month_ends y m q.month_low, in_year, days_by_division_lem (suc y)) in
    let (from, below) = within-days (days_by_division y) (days_by_division (suc y)) t begun not_over in
    (q.year_low, q.year_high, from, below)

-- a timestamp begins with its year
year-first : (t : ℕ) → take 4 (timestamp_text (pos t)) ≡ digits_of 4 (year_at (t / day)).unit
unfolding date_text
year-first t = let y = (year_at (t / day)).unit in simp append_assoc (take_at (digits_of 4 y) _ 4 (digits_of-length 4 y))

printed_years : (t : ℕ) → t < days_by_division 10_000 * day → (y : ℕ) × IsYearOf y t × (take 4 (timestamp_text (pos t)) ≡ digits_of 4 y)
printed_years t h = let q = date_of (t / day) (omega arith) in ((year_at (t / day)).unit, year_of t _ _ _ q, year-first t)

-- it is read without fault, and its tick is that of its start
module _ (s : Services) (p : Demand2 s) (y : ℕ) (l : 1 ≤ y) (h : y ≤ 9999) where
  faultless : time_faults (pos 0) (digits_of 4 y) ≡ []
  faultless = rw (year_alone 840 y l h, le-ltb 16_384 (length (digits_of 4 y)) (omega (arith, digits_of-length 4 y)))

  year_ticks : (before : ℤ) → (s.tick_says (pos 0) (digits_of 4 y) ≡ 4 * 2 ^ 8) × (s.tick_leaves (pos 0) (digits_of 4 y) before ≡ pos (days_by_division y * day))
  year_ticks before =
      let (n, r, t) = p.time (pos 0) (digits_of 4 y) before _ (year_alone 840 y l h) faultless in
      (omega (arith, n, r), t ∙ ap tick_at (omega (arith, year-starts 840 y)) ∙ tick-from-start (days_by_division y * day))

pub years_kept : (s : Services) → Demand2 s → YearsPromise s
years_kept s p = record {
  divided = λ y. refl;
  starts = starts;
  year_ends = year_ends;
  printed_years = printed_years;
  year_ticks = year_ticks s p;
  none_before = none_before;
  one_by_one = λ y l h. one_by_one y l;
  added_up = λ y l h. days_by_division_lem y;
}
