-- 02-change-requests.md, A4, "The last day of a pass is a whole day": the unit after the one that is written, as a calendar counts.
use Rattle.std.specs.Prelude.{ℕ, suc, cond, List, [], ◌∷◌, ◌++◌, ltb}
use Rattle.rules.specs.Calendar.{month_length}
use Rattle.rules.specs.Timestamp.{Written}

-- A unit is a year and the numbers of MM, DD, hh, mm as far as they go, as `Written` has them.

-- the first of the finer units in one
abbrev pub begun : (first : ℕ) → ℕ × List ℕ → ℕ × List ℕ
begun first (y, ps) = (y, ps ++ first ∷ [])

-- the next number, or after the last the first in the next unit above
abbrev pub month_after : (y m : ℕ) → ℕ × List ℕ
month_after y m = cond (ltb m 12) (y, suc m ∷ []) (begun 1 (suc y, []))

abbrev pub day_after : (y m d : ℕ) → ℕ × List ℕ
day_after y m d = cond (ltb d (month_length y m)) (y, m ∷ suc d ∷ []) (begun 1 (month_after y m))

abbrev pub hour_after : (y m d h : ℕ) → ℕ × List ℕ
hour_after y m d h = cond (ltb h 23) (y, m ∷ d ∷ suc h ∷ []) (begun 0 (day_after y m d))

abbrev pub minute_after : (y m d h i : ℕ) → ℕ × List ℕ
minute_after y m d h i = cond (ltb i 59) (y, m ∷ d ∷ h ∷ suc i ∷ []) (begun 0 (hour_after y m d h))

-- the unit after one that is longer than a second
unfoldable pub unit_after : (year : ℕ) → (parts : List ℕ) → ℕ × List ℕ
unit_after y [] = (suc y, [])
unit_after y (m ∷ []) = month_after y m
unit_after y (m ∷ d ∷ []) = day_after y m d
unit_after y (m ∷ d ∷ h ∷ []) = hour_after y m d h
unit_after y (m ∷ d ∷ h ∷ i ∷ []) = minute_after y m d h i
unit_after y (m ∷ d ∷ h ∷ i ∷ s ∷ more) = (y, m ∷ d ∷ h ∷ i ∷ s ∷ more)

-- what is written, one unit on
abbrev pub written_after : Written → Written
written_after w =
    let (y, ps) = unit_after w.year w.parts in
    record { year = y; parts = ps; fraction = w.fraction; zone = w.zone }
