-- Whether a place is in an item of a set, and the set of one interval.
use Rattle.std.proofs.Common.{◌≡◌, ℕ, ◌+◌, ◌^◌, ◌<◌, ◌≤◌, Bool, true, false, ◌||◌, [], ◌∷◌, map, length, get_or, take, drop, set, List, sym, refl, ap, ◌∙◌, ⊎_elim, zero-le, arith, take-suc-set, le-ltb, le-leb}
use mathlib.Core.Bool.{or-false}
use borrow.Author.Tests.{lt-leb}
use Rattle.rules.specs.Basics.{exists}
use Rattle.rules.specs.Sets.{at, gap_after, holds, is_in}
use Rattle.interval.specs.declared.Interval.{Interval}
use Rattle.interval.specs.declared.Stretches.{Stretches}
use Rattle.interval.specs.Meaning.{interval_of, place_of, Ticked, AllTicked, Holds}
use Rattle.interval.specs.Edges.{low_edge, high_edge, number_of, is_within}
use Rattle.interval.proofs.Ranks.{le-or-lt}
use Rattle.interval.proofs.Places.{spot, spot_tick, spot_gap, holds-edges, rising_canonical}
use Rattle.interval.proofs.Items.{ticked-at, is_in-next}

pub within_place : (v : Interval) → Ticked v.low → Ticked v.high → (n : ℕ) (gap : Bool) → n < 2 ^ 60
    → is_within v (number_of n gap) ≡ holds (interval_of v) (place_of n gap)
within_place v t u n true h = sym (holds-edges v t u (gap_after _) ∙ ap (is_within v) (spot_gap n h))
within_place v t u n false h = sym (holds-edges v t u (at _) ∙ ap (is_within v) (spot_tick n h))

-- looking for a place: at an item that has it, and at one that does not
module _ (l : List Interval) (ts : AllTicked l) (n : ℕ) (gap : Bool) (h : n < 2 ^ 60) (k : ℕ) (lt : k < length l) (d : Interval) (x : ℕ) (e : x ≡ number_of n gap) where
  found : is_in (map interval_of (drop k l)) (place_of n gap) ≡ is_within (get_or l k d) x || is_in (map interval_of (drop (k + 1) l)) (place_of n gap)
  found =
      let t = ticked-at l k d ts lt in
      is_in-next l k lt d (place_of n gap) ∙ rw (e, within_place (get_or l k d) t.0 t.1 n gap h) refl

  pub contains_here : is_within (get_or l k d) x ≡ true → is_in (map interval_of (drop k l)) (place_of n gap) ≡ true
  contains_here w = found ∙ rw w refl

  pub contains_next : is_within (get_or l k d) x ≡ false → is_in (map interval_of (drop k l)) (place_of n gap) ≡ is_in (map interval_of (drop (k + 1) l)) (place_of n gap)
  contains_next w = found ∙ rw w refl

-- an interval whose first edge is not below its second has no place
pub outside : (v : Interval) (x : ℕ) → high_edge v.high ≤ low_edge v.low → is_within v x ≡ false
outside v x h =
    ⊎_elim
    (λ (p : low_edge v.low ≤ x). rw (le-leb (low_edge v.low) x p, le-ltb x (high_edge v.high) (omega arith)))
    (λ (p : x < low_edge v.low). rw (lt-leb (low_edge v.low) x p))
    (le-or-lt (low_edge v.low) x)

-- the set of one interval: one stretch if its first edge is below its second, else none
module _ (v : Interval) (t : Ticked v.low) (u : Ticked v.high) where
  pub single_one : (s : Stretches) → length s.items ≡ 32 → low_edge v.low < high_edge v.high
      → Holds (holds (interval_of v)) 1 (record { items = set s.items 0 v; count = 1 })
  unfolding exists
  single_one s long h =
      let e : take 1 (set s.items 0 v) ≡ v ∷ [] = take-suc-set s.items 0 v (omega arith) in
      record {
        canonical = record {
          fits = omega arith;
          ticked = rw e (t, u, tt);
          rises = rw e (rising_canonical (v ∷ []) 0 (t, u, tt) (zero-le, (h, tt)));
        };
        places = λ x. rw e (or-false (holds (interval_of v) x));
        short = omega arith;
      }

  pub single_none : (s : Stretches) → Holds (λ x. false) 0 s → high_edge v.high ≤ low_edge v.low → Holds (holds (interval_of v)) 1 s
  single_none s e h = record {
    canonical = e.canonical;
    places = λ x. e.places x ∙ sym (holds-edges v t u x ∙ outside v (spot x) h);
    short = omega (arith, e.short);
  }
