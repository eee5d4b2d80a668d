-- 01-scope.md, "Sets of times": places, intervals, the places that a set means, and what its stretches are.
use Rattle.std.specs.Prelude.{◌≡◌, Bool, true, false, not, ◌&&◌, ◌||◌, List, [], ◌∷◌, ◌++◌, ℤ}
use Rattle.std.proofs.Math.Option.{Option, none, some}
use Rattle.std.proofs.Math.IntN.{suc_ℤ, pred_ℤ}
use Rattle.std.specs.Int.Signed.{le_z, lt_z}
use Rattle.rules.specs.Basics.{if_some, exists}

-- a place (the page's term) is a tick or the gap between one tick and the next
pub data Place : Type 0 where
  at gap_after : ℤ → Place

-- the line of places: tick, gap, next tick and so on, with no ends
abbrev pub next_place : Place → Place
next_place (at t) = gap_after t
next_place (gap_after t) = at (suc_ℤ t)

abbrev pub previous_place : Place → Place
previous_place (at t) = gap_after (pred_ℤ t)
previous_place (gap_after t) = at t

infix 50 ◌is_before◌
abbrev pub ◌is_before◌ : Place → Place → Bool
at s is_before at t = lt_z s t
at s is_before gap_after t = le_z s t
gap_after s is_before at t = lt_z s t
gap_after s is_before gap_after t = lt_z s t

-- a bound is unbounded, or open or closed at a tick
pub data Bound : Type 0 where
  unbounded : Bound
  open_at closed_at : ℤ → Bound

pub record Interval : Type 0 where
  pub low : Bound
  pub high : Bound

infix 70 ◌upto◌
abbrev pub ◌upto◌ : Bound → Bound → Interval
l upto h = record { low = l; high = h }

-- the first place from a low bound on, if there is one; an open bound leaves out its tick
abbrev pub first_place : Bound → Option Place
first_place unbounded = none
first_place (open_at t) = some (gap_after t)
first_place (closed_at t) = some (at t)

-- the last place up to a high bound, if there is one
abbrev pub last_place : Bound → Option Place
last_place unbounded = none
last_place (open_at t) = some (gap_after (pred_ℤ t))
last_place (closed_at t) = some (at t)

abbrev pub from_low : Bound → Place → Bool
from_low l x = if_some (first_place l) (λ f. not (x is_before f)) true

abbrev pub to_high : Bound → Place → Bool
to_high h x = if_some (last_place h) (λ z. not (z is_before x)) true

-- an interval means the places from its low to its high
abbrev pub holds : Interval → Place → Bool
holds v x = from_low v.low x && to_high v.high x

pub data Op : Type 0 where
  union intersection difference : Op

-- place by place: in one or the other, in both, in the first but not in the second
abbrev pub apply : Op → Bool → Bool → Bool
apply union p q = p || q
apply intersection p q = p && q
apply difference p q = p && not q

-- a set as written
pub data Expression : Type 0 where
  interval : Interval → Expression
  combine : Op → Expression → Expression → Expression

-- the places that a set means
unfoldable pub meant : Expression → Place → Bool
meant (interval v) x = holds v x
meant (combine o a b) x = apply o (meant a x) (meant b x)

-- the intervals of a set as written, from left to right
unfoldable pub intervals : Expression → List Interval
intervals (interval v) = v ∷ []
intervals (combine o a b) = intervals a ++ intervals b

-- a stretch (the page's term) is a run of neighbouring places, all in the set, that can't be made longer: it has one place or
-- more, and the next one before it and after it, if there is one, is not in the set
pub record IsStretch (p : Place → Bool) (s : Interval) : Type 0 where
  pub inhabited : (x : Place) × (holds s x ≡ true)
  pub filled : (x : Place) → holds s x ≡ true → p x ≡ true
  pub before : if_some (first_place s.low) (λ x. p (previous_place x)) false ≡ false
  pub after : if_some (last_place s.high) (λ x. p (next_place x)) false ≡ false

-- the place is in one of the stretches
abbrev pub is_in : List Interval → Place → Bool
is_in ss x = exists (λ s. holds s x) ss

-- each place of s is before each place of the stretches after it
abbrev pub ComesBefore : Interval → List Interval → Type 0
ComesBefore s ss = (x y : Place) → holds s x ≡ true → is_in ss y ≡ true → x is_before y ≡ true

abbrev pub AllStretches : (Place → Bool) → List Interval → Type 0
AllStretches p [] = Unit {0}
AllStretches p (s ∷ ss) = IsStretch p s × ComesBefore s ss × AllStretches p ss

-- the list is the stretches of a set: each of them is one, earliest first, and a place is in some stretch exactly when it is in the set
pub record AreStretches (p : Place → Bool) (ss : List Interval) : Type 0 where
  pub each : AllStretches p ss
  pub all : (x : Place) → is_in ss x ≡ p x
