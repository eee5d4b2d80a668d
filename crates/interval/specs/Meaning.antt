-- What the code's bounds, intervals and sets mean, in the words of the rules ("Sets of times").
use Rattle.std.specs.Prelude.{◌≡◌, ℕ, ◌^◌, ◌<◌, ◌≤◌, Bool, true, false, ◌||◌, List, [], ◌∷◌, map, take}
use Rattle.rules.specs.Timestamp.{tick_at}
use Rattle.rules.specs.Sets.{Place, at, gap_after, Bound as PageBound, unbounded, open_at, closed_at, Interval as PageInterval, ◌upto◌, Op as PageOp, union, intersection, difference, apply, holds, is_in}
use Rattle.rules.proofs.Canonical.{Canonical as Rises}
use Rattle.interval.specs.declared.Bound.{Bound}
use Rattle.interval.specs.declared.Bound.TheVariants.{Unbounded, Open, Closed}
use Rattle.interval.specs.declared.Interval.{Interval}
use Rattle.interval.specs.declared.Stretches.{Stretches}
use Rattle.interval.specs.declared.Op.{Op}
use Rattle.interval.specs.declared.Op.TheVariants.{Union, Intersection, Difference}

abbrev pub bound_of : Bound → PageBound
bound_of Unbounded = unbounded
bound_of (Open n) = open_at (tick_at n)
bound_of (Closed n) = closed_at (tick_at n)

abbrev pub interval_of : Interval → PageInterval
interval_of v = bound_of v.low upto bound_of v.high

abbrev pub op_of : Op → PageOp
op_of Union = union
op_of Intersection = intersection
op_of Difference = difference

-- a tick or the gap after it
abbrev pub place_of : (n : ℕ) → (gap : Bool) → Place
place_of n true = gap_after (tick_at n)
place_of n false = at (tick_at n)

-- the items in use, and the stretches that they mean
abbrev pub used : Stretches → List Interval
used s = take s.count s.items

abbrev pub stretches_of : Stretches → List PageInterval
stretches_of s = map interval_of (used s)

-- a bound's number of its tick, 0 if it has none; it is small
abbrev pub tick : Bound → ℕ
tick Unbounded = 0
tick (Open n) = n
tick (Closed n) = n

abbrev pub Ticked : Bound → Type 0
Ticked b = tick b < 2 ^ 60

abbrev pub AllTicked : List Interval → Type 0
AllTicked [] = Unit {0}
AllTicked (v ∷ l) = Ticked v.low × Ticked v.high × AllTicked l

-- a set as every operation takes and gives it: the rules' one list of its stretches, of at most 32
pub record Canonical (s : Stretches) : Type 0 where
  pub fits : s.count ≤ 32
  pub ticked : AllTicked (used s)
  pub rises : Rises (stretches_of s)

-- the set r has the places that p says, in so many stretches at most
pub record Holds (p : Place → Bool) (most : ℕ) (r : Stretches) : Type 0 where
  pub canonical : Canonical r
  pub places : (x : Place) → is_in (stretches_of r) x ≡ p x
  pub short : r.count ≤ most

-- the places of the outcome of an operation on two sets
abbrev pub applied : Op → Stretches → Stretches → Place → Bool
applied op a b x = apply (op_of op) (is_in (stretches_of a) x) (is_in (stretches_of b) x)

-- the places of a set and those of an interval
abbrev pub joined_by : Stretches → Interval → Place → Bool
joined_by s v x = is_in (stretches_of s) x || holds (interval_of v) x

-- the answer says whether the two sets have the same places
pub record SaysSame (a b : Stretches) (r : Bool) : Type 0 where
  pub same : r ≡ true → (x : Place) → is_in (stretches_of a) x ≡ is_in (stretches_of b) x
  pub other : r ≡ false → ((x : Place) → is_in (stretches_of a) x ≡ is_in (stretches_of b) x) → ⊥
