-- The pieces of a timestamp, two digits each.
use Prim.Native.Nat.{ℕ, ◌/◌, ◌%◌, ◌<◌}
use mathlib.Core.Path.{◌≡◌, ap}
use mathlib.Core.List.{[], ◌∷◌, ◌++◌, append_assoc}
use native.Mathlib.Omega.{arith}
use Rattle.rules.specs.Basics.{digits_of}
use Rattle.rules.specs.Calendar.{second, minute, hour}
use Rattle.rules.specs.Dates.{date_text, clock_text}
use Rattle.rules.proofs.Dates.{month_most, date_of}
use Rattle.printing.specs.declared.date.Date.{Date}
use Rattle.printing.specs.Dates.{date_at}

-- four digits are the two of the hundreds and the two that are left
digits_four : (n : ℕ) → digits_of 4 n ≡ digits_of 2 (n / 100) ++ digits_of 2 (n % 100)
unfolding digits_of
digits_four n =
    let a : n / 10 / 10 / 10 % 10 ≡ n / 100 / 10 % 10 = omega arith in
    let b : n / 10 / 10 % 10 ≡ n / 100 % 10 = omega arith in
    let c : n / 10 % 10 ≡ n % 100 / 10 % 10 = omega arith in
    let d : n % 10 ≡ n % 100 % 10 = omega arith in
    rw (a, b, c, d)

pub date_pieces : (days : ℕ) (d : Date) → d ≡ date_at days
    → date_text days ≡ digits_of 2 (d.year / 100) ++ digits_of 2 (d.year % 100) ++ digits_of 2 d.month ++ digits_of 2 d.day
unfolding date_text
date_pieces days d e = rw e (ap (λ l. l ++ digits_of 2 (date_at days).month ++ digits_of 2 (date_at days).day) (digits_four (date_at days).year))

-- each of them is below 100
pub date-small : (days : ℕ) → days < 3_652_059 → let d = date_at days in (d.year < 10_000) × (d.month < 100) × (d.day < 100)
date-small days h =
    let q = date_of days h in
    (omega (arith, q.year_high), omega (arith, q.month_high), omega (arith, q.day_high, month_most (date_at days).year (date_at days).month))

pub clock_pieces : (t : ℕ) → clock_text t
    ≡ digits_of 2 (t / hour) ++ digits_of 2 (t / minute % 60) ++ digits_of 2 (t / second % 60) ++ (46 ∷ []) ++ digits_of 2 (t % second / 100) ++ digits_of 2 (t % 100)
unfolding clock_text
clock_pieces t =
    let z : t % 100 ≡ t % second % 100 = omega arith in
    rw (z, digits_four (t % second)) (simp append_assoc)
