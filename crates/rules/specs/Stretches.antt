-- 01-scope.md, "Sets of times": the stretches of a set, found by asking of each place where it may change whether it is meant.
-- `Sets.AreStretches` says what they are; the law `stretches_are` says that these are they.
use Rattle.std.specs.Prelude.{Bool, cond, pos}
use mathlib.Core.List.{List, [], ◌∷◌, ◌++◌, flat_map}
use Rattle.std.proofs.Math.Option.{Option, none, some}
use Rattle.std.proofs.Math.IntN.{suc_ℤ}
use Rattle.rules.specs.Basics.{if_some, list_of}
use Rattle.rules.specs.Sets.{Place, at, gap_after, next_place, previous_place, ◌is_before◌, Bound, unbounded, open_at, closed_at, Interval, ◌upto◌, first_place, last_place, Expression, meant, intervals}

-- closed at its first place if that is a tick, open at the tick before it if that is a gap
abbrev pub low_at : Place → Bound
low_at (at t) = closed_at t
low_at (gap_after t) = open_at t

-- likewise by its last place, open at the tick after a gap
abbrev pub high_at : Place → Bound
high_at (at t) = closed_at t
high_at (gap_after t) = open_at (suc_ℤ t)

-- where an interval may change what is in: at its first place, and next after its last
abbrev pub changes_of : Interval → List Place
changes_of v = list_of (first_place v.low) ++ if_some (last_place v.high) (λ x. next_place x ∷ []) []

-- from low to high, each once
unfoldable pub insert : Place → List Place → List Place
insert x [] = x ∷ []
insert x (y ∷ ys) = cond (x is_before y) (x ∷ y ∷ ys) (cond (y is_before x) (y ∷ insert x ys) (y ∷ ys))

unfoldable pub sorted : List Place → List Place
sorted [] = []
sorted (x ∷ xs) = insert x (sorted xs)

abbrev pub changes : Expression → List Place
changes e = sorted (flat_map changes_of (intervals e))

-- the stretches of p from here on, where p changes at these places alone; `begun` is the low of the one that reaches up to here, if one does
unfoldable pub drawn : (p : Place → Bool) → (begun : Option Bound) → List Place → List Interval
drawn p none [] = []
drawn p (some l) [] = l upto unbounded ∷ []
drawn p none (x ∷ xs) = drawn p (cond (p x) (some (low_at x)) none) xs
drawn p (some l) (x ∷ xs) = cond (p x) [] (l upto high_at (previous_place x) ∷ []) ++ drawn p (cond (p x) (some l) none) xs

-- a place before all of these
abbrev pub place_before : List Place → Place
place_before [] = at (pos 0)
place_before (x ∷ xs) = previous_place x

-- the stretches of the set that e means, earliest first
unfoldable pub stretches : Expression → List Interval
stretches e = drawn (meant e) (cond (meant e (place_before (changes e))) (some unbounded) none) (changes e)
