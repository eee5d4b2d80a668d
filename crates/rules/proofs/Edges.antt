-- An interval by its edges: the places from its first on, and before its end, the next place after its last.
use mathlib.Core.Path.{◌≡◌, refl, sym, ◌∙◌, ap}
use mathlib.Core.Bool.{Bool, true, false, not, ◌&&◌, and-false}
use mathlib.Core.Option.{Option, none, some}
use lib.IntN.{pred_ℤ, suc-pred, pred-suc}
use Rattle.rules.specs.Basics.{if_some}
use Rattle.rules.specs.Sets.{Place, at, gap_after, next_place, previous_place, ◌is_before◌, Bound, unbounded, open_at, closed_at, Interval, ◌upto◌, first_place, last_place, from_low, to_high, holds}
use Rattle.rules.specs.Stretches.{low_at, high_at}
use Rattle.rules.proofs.Order.{places, before-next}

-- the next place after the last up to a high bound, if there is one
abbrev pub end_place : Bound → Option Place
end_place unbounded = none
end_place (open_at t) = some (at t)
end_place (closed_at t) = some (gap_after t)

-- the two edges of an interval: its first place and its end, if it has them
abbrev pub first_edge : Interval → Option Place
first_edge s = first_place s.low

abbrev pub end_edge : Interval → Option Place
end_edge s = end_place s.high

-- the place is not before the first; it is before the end; it is past the end
abbrev pub since : Option Place → Place → Bool
since f x = if_some f (λ a. not (x is_before a)) true

abbrev pub until : Option Place → Place → Bool
until e x = if_some e (λ n. x is_before n) true

abbrev pub past : Option Place → Place → Bool
past e x = if_some e (λ n. n is_before x) false

pub to_end : (h : Bound) (x : Place) → to_high h x ≡ until (end_place h) x
to_end unbounded x = refl
to_end (open_at t) x = sym (rw suc-pred at (before-next x (gap_after (pred_ℤ t))))
to_end (closed_at t) x = sym (before-next x (at t))

pub half_open : (s : Interval) (x : Place) → holds s x ≡ since (first_edge s) x && until (end_edge s) x
half_open s x = ap (from_low s.low x &&◌) (to_end s.high x)

and_both : (a b : Bool) → a && b ≡ true → (a ≡ true) × (b ≡ true)
and_both true b h = (refl, h)
and_both false b h = (h, cc)

pub inside : (s : Interval) (x : Place) → holds s x ≡ true → (since (first_edge s) x ≡ true) × (until (end_edge s) x ≡ true)
inside s x h = and_both (since (first_edge s) x) (until (end_edge s) x) (sym (half_open s x) ∙ h)

pub is-inside : (s : Interval) (x : Place) → since (first_edge s) x ≡ true → until (end_edge s) x ≡ true → holds s x ≡ true
is-inside s x h k = half_open s x ∙ rw (h, k) refl

pub not-until : (s : Interval) (x : Place) → until (end_edge s) x ≡ false → holds s x ≡ false
not-until s x h = half_open s x ∙ rw h (and-false (since (first_edge s) x))

pub first-low : (x : Place) → first_place (low_at x) ≡ some x
first-low (at t) = refl
first-low (gap_after t) = refl

pub last_high : (x : Place) → last_place (high_at x) ≡ some x
last_high (at t) = refl
last_high (gap_after t) = rw pred-suc refl

-- of the high that ends before x
pub end-high : (x : Place) → end_place (high_at (previous_place x)) ≡ some x
end-high (at t) = rw suc-pred refl
end-high (gap_after t) = refl

-- what is next after the last place is at the end
pub after-end : (p : Place → Bool) (h : Bound) → if_some (last_place h) (λ x. p (next_place x)) false ≡ if_some (end_place h) p false
after-end p unbounded = refl
after-end p (open_at t) = rw suc-pred
after-end p (closed_at t) = refl

abbrev low_from : Option Place → Bound
low_from none = unbounded
low_from (some x) = low_at x

abbrev high_before : Option Place → Bound
high_before none = unbounded
high_before (some x) = high_at (previous_place x)

low-from : (l : Bound) → l ≡ low_from (first_place l)
low-from unbounded = refl
low-from (open_at t) = refl
low-from (closed_at t) = refl

high-before : (h : Bound) → h ≡ high_before (end_place h)
high-before unbounded = refl
high-before (open_at t) = rw suc-pred
high-before (closed_at t) = refl

-- an interval is known by its edges
pub by_edges : (s r : Interval) → first_edge s ≡ first_edge r → end_edge s ≡ end_edge r → s ≡ r
by_edges s r e d =
    let l : s.low ≡ r.low = low-from s.low ∙ ap low_from e ∙ sym (low-from r.low) in
    let h : s.high ≡ r.high = high-before s.high ∙ ap high_before d ∙ sym (high-before r.high) in
    λ i. l i upto h i

pub since_up : (f : Option Place) (x y : Place) → x is_before y ≡ true → since f x ≡ true → since f y ≡ true
since_up none x y h k = refl
since_up (some f) x y h k = omega places

pub until_down : (e : Option Place) (x y : Place) → x is_before y ≡ true → until e y ≡ true → until e x ≡ true
until_down none x y h k = refl
until_down (some n) x y h k = omega places

-- a test fails if one that it implies fails; it passes if one passes that fails with it
pub fails : {a b : Bool} → (a ≡ true → b ≡ true) → b ≡ false → a ≡ false
fails {a = true} {b} f h = sym (f refl) ∙ h
fails {a = false} {b} f h = refl

pub passes : {a b : Bool} → (a ≡ false → b ≡ false) → b ≡ true → a ≡ true
passes {a = true} {b} f h = refl
passes {a = false} {b} f h = sym (f refl) ∙ h
