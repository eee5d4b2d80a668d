-- Sets put together from intervals: how many are written, and the places.
use Prim.Native.Nat.{ℕ, ◌+◌, ◌≤◌, ◌<◌, min}
use mathlib.Core.Path.{◌≡◌, refl, ap₂, ◌∙◌}
use mathlib.Core.Bool.{Bool, true, false}
use mathlib.Core.Option.{Option, none, some}
use native.Mathlib.Omega.{arith}
use Rattle.std.specs.Prelude.{Option as StdOption, Some, None}
use lib.ListN.{length, length-append}
use Rattle.rules.specs.Refusal.{Outcome}
use Rattle.rules.specs.Sets.{Place, Interval as PageInterval, holds, apply, Expression, interval, combine, meant, intervals}
use Rattle.interval.specs.declared.Stretches.{Stretches}
use Rattle.interval.specs.declared.Op.{Op}
use Rattle.interval.specs.Meaning.{op_of, interval_of, Holds, applied}
use Rattle.interval.specs.declared.Interval.{Interval}
use Rattle.listing.specs.declared.set.Evaluated.{Evaluated}
use Rattle.listing.specs.Bounds.{written_meant}
use Rattle.listing.specs.Sets.{Formed, IsSet, Says, is_set, is_unknown, SoFar, none_yet, so_far, put, expressed}

abbrev made : (known : Bool) (count : ℕ) (set : Stretches) (end : ℕ) → Evaluated
made k n s e = record { known = k; count = n; set = s; end = e }

-- whether it is known, and where the element ends, does not matter
pub as_formed : {a : Evaluated} (k : Bool) (e : ℕ) → Formed a → Formed (made k a.count a.set e)
as_formed k e f = record { canonical = f.canonical; short = f.short; most = f.most }

-- the set of one interval
module _ (v : Interval) {set : Stretches} (h : Holds (holds (interval_of v)) 1 set) (e : ℕ) where
  pub single_formed : Formed (made true 1 set e)
  single_formed = record { canonical = h.canonical; short = h.short; most = omega arith }

  pub single_says : {w : StdOption Interval} → w ≡ Some v → {o : Outcome PageInterval} → written_meant w ≡ o → Says (expressed o) (made true 1 set e)
  unfolding meant intervals
  single_says k z = rw (← z, k) (is_set (record { known = refl; count = refl; places = λ f y. h.places y }))

pub unknown_says : {w : StdOption Interval} → w ≡ None → {r : Evaluated} → r.known ≡ false → {o : Outcome PageInterval} → written_meant w ≡ o → Says (expressed o) r
unknown_says k u z = rw (← z, k) (is_unknown u)

-- an interval is written in every set
some_written : (x : Expression) → 1 ≤ length (intervals x)
unfolding intervals
some_written (interval v) = omega arith
some_written (combine o x y) = rw (length-append (intervals x) (intervals y)) (omega (arith, some_written x))

written_both : (op : Op) (x y : Expression) → length (intervals (combine (op_of op) x y)) ≡ length (intervals x) + length (intervals y)
unfolding intervals
written_both op x y = length-append (intervals x) (intervals y)

module _ (op : Op) (a b : Evaluated) where
  -- the first set, where there is none before it
  pub join_first : a.count ≡ 0 → (x : Option Expression) (y : Expression) → SoFar x a → IsSet y b → IsSet (put (op_of op) x y) b
  join_first z none y s t = t
  join_first z (some x) y (so_far s) t = absurd (omega (arith, z, s.count, some_written x))

  -- another one, put together with those before it
  pub join_next : (a.count ≡ 0 → ⊥) → {r : Evaluated} → ((x y : Expression) → IsSet x a → IsSet y b → IsSet (combine (op_of op) x y) r)
      → (x : Option Expression) (y : Expression) → SoFar x a → IsSet y b → IsSet (put (op_of op) x y) r
  join_next z join none y (none_yet k c) t = absurd (z c)
  join_next z join (some x) y (so_far s) t = join x y s t

  module _ (x y : Expression) (s : IsSet x a) (t : IsSet y b) where
    -- more than 32
    pub join_many : 32 < a.count + b.count → (set : Stretches) (e : ℕ) → IsSet (combine (op_of op) x y) (made true 33 set e)
    join_many l set e =
        let n : 33 ≡ min 33 (length (intervals (combine (op_of op) x y))) = omega (arith, written_both op x y, s.count, t.count) in
        record { known = refl; count = n; places = λ (f : 33 ≤ 32). absurd (omega arith) }

    -- put together
    pub join_set : a.count + b.count ≤ 32 → {n : ℕ} {set : Stretches} (e : ℕ) → Holds (applied op a.set b.set) n set
        → IsSet (combine (op_of op) x y) (made true (a.count + b.count) set e)
    unfolding meant
    join_set l e h =
        let n : a.count + b.count ≡ min 33 (length (intervals (combine (op_of op) x y))) = omega (arith, written_both op x y, s.count, t.count) in
        record { known = refl; count = n; places = λ f z. h.places z ∙ ap₂ (apply (op_of op)) (s.places (omega arith) z) (t.places (omega arith) z) }

pub many-formed : {a : Evaluated} (e : ℕ) → Formed a → Formed (made true 33 a.set e)
many-formed e f = record { canonical = f.canonical; short = omega (arith, f.canonical.fits); most = omega arith }

pub join_formed : {a b : Evaluated} (e : ℕ) {p : Place → Bool} {set : Stretches} → Formed a → Formed b → a.count + b.count ≤ 32
    → Holds p (a.set.count + b.set.count) set → Formed (made true (a.count + b.count) set e)
join_formed e f g l h = record { canonical = h.canonical; short = omega (arith, h.short, f.short, g.short); most = omega arith }
