-- One interval joined to stretches: the edges still rise, and the places are those of both.
use Rattle.std.proofs.Common.{◌≡◌, ℕ, suc, ◌+◌, ◌<◌, ◌≤◌, min, max, Bool, true, false, ◌&&◌, ◌||◌, ltb, leb, List, [], ◌∷◌, ◌++◌, map, length, get_or, take, drop, set, sym, refl, ap, ◌∙◌, ap₂, ⊎_elim, append_assoc, zero-le, add-one, arith, drop_of_length-le, drop-cons, get_or-take, take-suc, take-take, take-suc-set, le-ltb, lt-ltb, le-leb}
use borrow.Author.Tests.{lt-leb}
use Rattle.rules.specs.Basics.{exists}
use Rattle.rules.specs.Sets.{Place, holds, is_in}
use Rattle.interval.specs.declared.Bound.{Bound}
use Rattle.interval.specs.declared.Interval.{Interval}
use Rattle.interval.specs.declared.Stretches.{Stretches}
use Rattle.interval.specs.declared.Op.TheVariants.{Union}
use Rattle.interval.specs.Meaning.{interval_of, Ticked, AllTicked, used, stretches_of, Canonical, Holds, applied, joined_by}
use Rattle.interval.specs.Edges.{low_edge, high_edge, edges, Rising}
use Rattle.interval.specs.Joining.{lower_of, higher_of, hull_of, absorb, insert}
use Rattle.interval.proofs.Ranks.{le-or-lt}
use Rattle.interval.proofs.Places.{spot, holds-edges, rising_canonical}
use Rattle.interval.proofs.Items.{edges_rise, used-length}
use Rattle.interval.proofs.Members.{outside}

-- ---- the hull of two intervals
pub lower_edge : (a b : Bound) → low_edge (lower_of a b) ≡ min (low_edge a) (low_edge b)
lower_edge a b =
    ⊎_elim
    (λ (p : low_edge a ≤ low_edge b). rw (le-leb (low_edge a) (low_edge b) p) (omega arith))
    (λ (q : low_edge b < low_edge a). rw (lt-leb (low_edge a) (low_edge b) q) (omega arith))
    (le-or-lt (low_edge a) (low_edge b))

pub higher_edge : (a b : Bound) → high_edge (higher_of a b) ≡ max (high_edge a) (high_edge b)
higher_edge a b =
    ⊎_elim
    (λ (p : high_edge b ≤ high_edge a). rw (le-leb (high_edge b) (high_edge a) p) (omega arith))
    (λ (q : high_edge a < high_edge b). rw (lt-leb (high_edge b) (high_edge a) q) (omega arith))
    (le-or-lt (high_edge b) (high_edge a))

pub lower_ticked : (a b : Bound) → Ticked a → Ticked b → Ticked (lower_of a b)
lower_ticked a b t u =
    ⊎_elim
    (λ (p : low_edge a ≤ low_edge b). rw (le-leb (low_edge a) (low_edge b) p) t)
    (λ (q : low_edge b < low_edge a). rw (lt-leb (low_edge a) (low_edge b) q) u)
    (le-or-lt (low_edge a) (low_edge b))

pub higher_ticked : (a b : Bound) → Ticked a → Ticked b → Ticked (higher_of a b)
higher_ticked a b t u =
    ⊎_elim
    (λ (p : high_edge b ≤ high_edge a). rw (le-leb (high_edge b) (high_edge a) p) t)
    (λ (q : high_edge a < high_edge b). rw (lt-leb (high_edge b) (high_edge a) q) u)
    (le-or-lt (high_edge b) (high_edge a))

-- two intervals that overlap, or of which one begins where the other ends, have the places of their hull
within_hull : (a b c d y : ℕ) → c ≤ b → a ≤ d → leb (min a c) y && ltb y (max b d) ≡ (leb c y && ltb y d) || (leb a y && ltb y b)
within_hull a b c d y h k =
    ⊎_elim
    (λ (p : a ≤ y).
    ⊎_elim
    (λ (q : c ≤ y).
    ⊎_elim
    (λ (e : b ≤ y).
    ⊎_elim
    (λ (f : d ≤ y). rw (le-leb (min a c) y (omega arith), le-ltb y (max b d) (omega arith), le-leb c y q, le-ltb y d f, le-leb a y p, le-ltb y b e))
    (λ (f : y < d). rw (le-leb (min a c) y (omega arith), lt-ltb y (max b d) (omega arith), le-leb c y q, lt-ltb y d f))
    (le-or-lt d y))
    (λ (e : y < b).
    rw (le-leb (min a c) y (omega arith), lt-ltb y (max b d) (omega arith), le-leb c y q, le-leb a y p, lt-ltb y b e) (or-true (ltb y d)))
    (le-or-lt b y))
    (λ (q : y < c). rw (le-leb (min a c) y (omega arith), lt-ltb y (max b d) (omega arith), lt-leb c y q, le-leb a y p, lt-ltb y b (omega arith)))
    (le-or-lt c y))
    (λ (p : y < a).
    ⊎_elim
    (λ (q : c ≤ y). rw (le-leb (min a c) y (omega arith), lt-ltb y (max b d) (omega arith), le-leb c y q, lt-ltb y d (omega arith)))
    (λ (q : y < c). rw (lt-leb (min a c) y (omega arith), lt-leb c y q, lt-leb a y p))
    (le-or-lt c y))
    (le-or-lt a y)
  where
    or-true : (b : Bool) → true ≡ b || true
    or-true true = refl
    or-true false = refl

module _ (v w : Interval) (t : Ticked v.low) (u : Ticked v.high) (t' : Ticked w.low) (u' : Ticked w.high) where
  pub hull_low : Ticked (hull_of v w).low
  hull_low = lower_ticked v.low w.low t t'

  pub hull_high : Ticked (hull_of v w).high
  hull_high = higher_ticked v.high w.high u u'

  hull_holds : low_edge w.low ≤ high_edge v.high → low_edge v.low ≤ high_edge w.high → (x : Place)
      → holds (interval_of (hull_of v w)) x ≡ holds (interval_of w) x || holds (interval_of v) x
  hull_holds h k x =
      holds-edges (hull_of v w) hull_low hull_high x
      ∙ rw (lower_edge v.low w.low, higher_edge v.high w.high) (within_hull _ _ _ _ (spot x) h k)
      ∙ sym (ap₂ ◌||◌ (holds-edges w t' u' x) (holds-edges v t u x))

-- ---- bools
swapped : (a b : Bool) → a || b ≡ b || a
swapped true true = refl
swapped true false = refl
swapped false true = refl
swapped false false = refl

grouped : (a b c : Bool) → a || (b || c) ≡ (a || b) || c
grouped true b c = refl
grouped false b c = refl

moved : (a b c : Bool) → a || (b || c) ≡ (b || a) || c
moved true true c = refl
moved true false c = refl
moved false b c = ap (λ (x : Bool). x || c) (sym (none b))
  where
    none : (b : Bool) → b || false ≡ b
    none true = refl
    none false = refl

-- ---- rising edges
rising_less : (l : List ℕ) (b c : ℕ) → b ≤ c → Rising c l → Rising b l
rising_less [] b c h r = tt
rising_less (e ∷ l) b c h r = (omega (arith, r.0), r.1)

-- the first stretch does not end before v begins
abbrev Meets : Interval → List Interval → Type 0
Meets v [] = Unit {0}
Meets v (w ∷ l) = low_edge v.low ≤ high_edge w.high

meets : (v : Interval) (l : List Interval) (b : ℕ) → Rising b (edges l) → low_edge v.low ≤ b → Meets v l
meets v [] b r h = tt
meets v (w ∷ l) b r h = omega (arith, r.0, r.1.0)

absorb-rises : (v : Interval) (l : List Interval) (b : ℕ) → Rising b (edges l) → b ≤ low_edge v.low → low_edge v.low < high_edge v.high → Rising b (edges (absorb v l))
unfolding absorb
absorb-rises v [] b r h k = (h, (k, tt))
absorb-rises v (w ∷ l) b r h k =
    ⊎_elim
    (λ (p : low_edge w.low ≤ high_edge v.high).
    rw (le-ltb (high_edge v.high) (low_edge w.low) p)
    (absorb-rises (hull_of v w) l b (rising_less (edges l) b (suc (high_edge w.high)) (omega (arith, r.0, r.1.0)) r.1.1)
    (omega (arith, lower_edge v.low w.low, r.0))
    (omega (arith, lower_edge v.low w.low, higher_edge v.high w.high))))
    (λ (q : high_edge v.high < low_edge w.low). rw (lt-ltb (high_edge v.high) (low_edge w.low) q) (h, (k, (q, r.1))))
    (le-or-lt (low_edge w.low) (high_edge v.high))

pub insert-rises : (v : Interval) (l : List Interval) (b : ℕ) → Rising b (edges l) → b ≤ low_edge v.low → low_edge v.low < high_edge v.high → Rising b (edges (insert v l))
unfolding insert
insert-rises v [] b r h k = (h, (k, tt))
insert-rises v (w ∷ l) b r h k =
    ⊎_elim
    (λ (p : low_edge v.low ≤ high_edge w.high). rw (le-ltb (high_edge w.high) (low_edge v.low) p) (absorb-rises v (w ∷ l) b r h k))
    (λ (q : high_edge w.high < low_edge v.low).
    rw (lt-ltb (high_edge w.high) (low_edge v.low) q) (r.0, (r.1.0, insert-rises v l (suc (high_edge w.high)) r.1.1 q k)))
    (le-or-lt (low_edge v.low) (high_edge w.high))

-- ---- ticks
absorb-ticked : (v : Interval) (l : List Interval) → Ticked v.low → Ticked v.high → AllTicked l → AllTicked (absorb v l)
unfolding absorb
absorb-ticked v [] t u a = (t, u, tt)
absorb-ticked v (w ∷ l) t u a =
    ⊎_elim
    (λ (p : low_edge w.low ≤ high_edge v.high).
    rw (le-ltb (high_edge v.high) (low_edge w.low) p)
    (absorb-ticked (hull_of v w) l (hull_low v w t u a.0 a.1) (hull_high v w t u a.0 a.1) a.2))
    (λ (q : high_edge v.high < low_edge w.low). rw (lt-ltb (high_edge v.high) (low_edge w.low) q) (t, u, a))
    (le-or-lt (low_edge w.low) (high_edge v.high))

pub insert-ticked : (v : Interval) (l : List Interval) → Ticked v.low → Ticked v.high → AllTicked l → AllTicked (insert v l)
unfolding insert
insert-ticked v [] t u a = (t, u, tt)
insert-ticked v (w ∷ l) t u a =
    ⊎_elim
    (λ (p : low_edge v.low ≤ high_edge w.high). rw (le-ltb (high_edge w.high) (low_edge v.low) p) (absorb-ticked v (w ∷ l) t u a))
    (λ (q : high_edge w.high < low_edge v.low). rw (lt-ltb (high_edge w.high) (low_edge v.low) q) (a.0, a.1, insert-ticked v l t u a.2))
    (le-or-lt (low_edge v.low) (high_edge w.high))

-- ---- places
absorb-places : (v : Interval) (l : List Interval) (b : ℕ) → Ticked v.low → Ticked v.high → AllTicked l → Rising b (edges l) → Meets v l → (x : Place)
    → is_in (map interval_of (absorb v l)) x ≡ is_in (map interval_of l) x || holds (interval_of v) x
unfolding absorb exists
absorb-places v [] b t u a r m x = swapped (holds (interval_of v) x) false
absorb-places v (w ∷ l) b t u a r m x =
    ⊎_elim
    (λ (p : low_edge w.low ≤ high_edge v.high).
    rw (le-ltb (high_edge v.high) (low_edge w.low) p)
    (absorb-places (hull_of v w) l (suc (high_edge w.high)) (hull_low v w t u a.0 a.1) (hull_high v w t u a.0 a.1) a.2 r.1.1
    (meets (hull_of v w) l (suc (high_edge w.high)) r.1.1 (omega (arith, lower_edge v.low w.low, r.1.0))) x
    ∙ ap (λ (y : Bool). is_in (map interval_of l) x || y) (hull_holds v w t u a.0 a.1 p m x)
    ∙ moved (is_in (map interval_of l) x) (holds (interval_of w) x) (holds (interval_of v) x)))
    (λ (q : high_edge v.high < low_edge w.low). rw (lt-ltb (high_edge v.high) (low_edge w.low) q) (swapped (holds (interval_of v) x) _))
    (le-or-lt (low_edge w.low) (high_edge v.high))

pub insert_places : (v : Interval) (l : List Interval) (b : ℕ) → Ticked v.low → Ticked v.high → AllTicked l → Rising b (edges l) → (x : Place)
    → is_in (map interval_of (insert v l)) x ≡ is_in (map interval_of l) x || holds (interval_of v) x
unfolding insert exists
insert_places v [] b t u a r x = swapped (holds (interval_of v) x) false
insert_places v (w ∷ l) b t u a r x =
    ⊎_elim
    (λ (p : low_edge v.low ≤ high_edge w.high). rw (le-ltb (high_edge w.high) (low_edge v.low) p) (absorb-places v (w ∷ l) b t u a r p x))
    (λ (q : high_edge w.high < low_edge v.low).
    rw (lt-ltb (high_edge w.high) (low_edge v.low) q)
    (ap (λ (y : Bool). holds (interval_of w) x || y) (insert_places v l (suc (high_edge w.high)) t u a.2 r.1.1 x)
    ∙ grouped (holds (interval_of w) x) (is_in (map interval_of l) x) (holds (interval_of v) x)))
    (le-or-lt (low_edge v.low) (high_edge w.high))

-- ---- the loops: where the next stretch is w, or there is none
module _ (v w : Interval) (l : List Interval) where
  insert-past : high_edge w.high < low_edge v.low → insert v (w ∷ l) ≡ w ∷ insert v l
  unfolding insert
  insert-past h = rw (lt-ltb (high_edge w.high) (low_edge v.low) h)

  insert_here : low_edge v.low ≤ high_edge w.high → insert v (w ∷ l) ≡ absorb v (w ∷ l)
  unfolding insert
  insert_here h = rw (le-ltb (high_edge w.high) (low_edge v.low) h)

  absorb-past : high_edge v.high < low_edge w.low → absorb v (w ∷ l) ≡ v ∷ w ∷ l
  unfolding absorb
  absorb-past h = rw (lt-ltb (high_edge v.high) (low_edge w.low) h)

  absorb_here : low_edge w.low ≤ high_edge v.high → absorb v (w ∷ l) ≡ absorb (hull_of v w) l
  unfolding absorb
  absorb_here h = rw (le-ltb (high_edge v.high) (low_edge w.low) h)

-- the first k end before v, and v is joined with what follows
module _ (l : List Interval) (k : ℕ) where
  pub passed-end : (v : Interval) → length l ≤ k → insert v l ≡ take k l ++ insert v (drop k l) → insert v l ≡ take k l ++ absorb v (drop k l)
  unfolding insert absorb
  passed-end v h e = e ∙ rw (drop_of_length-le l {i = k} h)

  module _ (h : k < length l) (d : Interval) where
    items-next : drop k l ≡ get_or l k d ∷ drop (k + 1) l
    items-next = rw add-one (drop-cons l k d h)

    pub passed_more : (v : Interval) → high_edge (get_or l k d).high < low_edge v.low → insert v l ≡ take k l ++ insert v (drop k l)
        → insert v l ≡ take (k + 1) l ++ insert v (drop (k + 1) l)
    passed_more v lt e =
        let w = get_or l k d in
        let f : take (k + 1) l ≡ take k l ++ w ∷ [] = rw add-one (take-suc l k d h) in
        e ∙ rw (items-next, f, append_assoc, insert-past v w (drop (k + 1) l) lt) refl

    pub passed_here : (v : Interval) → low_edge v.low ≤ high_edge (get_or l k d).high → insert v l ≡ take k l ++ insert v (drop k l)
        → insert v l ≡ take k l ++ absorb v (drop k l)
    passed_here v le e = e ∙ rw (items-next, insert_here v (get_or l k d) (drop (k + 1) l) le) refl

-- v is joined with the stretches from the k-th on
module _ (s : Stretches) (long : length s.items ≡ 32) (fits : s.count ≤ 32) (k : ℕ) where
  pub join_end : (v : Interval) → s.count ≤ k → absorb v (drop k (used s)) ≡ v ∷ drop k (used s)
  unfolding absorb
  join_end v h = rw (drop_of_length-le (used s) {i = k} (rw (used-length s long fits) h))

  module _ (h : k < s.count) (d : Interval) where
    used-next : drop k (used s) ≡ get_or s.items k d ∷ drop (k + 1) (used s)
    used-next = rw (← (get_or-take s.count s.items k d h)) (items-next (used s) k (rw (used-length s long fits) h) d)

    pub join_past : (v : Interval) → high_edge v.high < low_edge (get_or s.items k d).low → absorb v (drop k (used s)) ≡ v ∷ drop k (used s)
    join_past v lt = rw used-next (absorb-past v (get_or s.items k d) (drop (k + 1) (used s)) lt)

    pub join_here : (v : Interval) → low_edge (get_or s.items k d).low ≤ high_edge v.high
        → absorb v (drop k (used s)) ≡ absorb (hull_of v (get_or s.items k d)) (drop (k + 1) (used s))
    join_here v le = rw used-next (absorb_here v (get_or s.items k d) (drop (k + 1) (used s)) le)

-- v in the p-th place, and the items from the q-th on after it
pub replace_start : (s : Stretches) (p q : ℕ) (v : Interval) → p ≤ q → q ≤ s.count → s.count < 32 → length s.items ≡ 32
    → take (p + 1) (set s.items p v) ++ drop q (used s) ≡ take p (used s) ++ v ∷ drop q (used s)
replace_start s p q v h k lt long =
    let e : take (p + 1) (set s.items p v) ≡ take p s.items ++ v ∷ [] = rw add-one (take-suc-set s.items p v (omega arith)) in
    let f : take p (used s) ≡ take p s.items = take-take p s.count s.items (omega arith) in
    rw (e, f, append_assoc) refl

-- ---- the whole
module _ (s : Stretches) (c : Canonical s) (v : Interval) (t : Ticked v.low) (u : Ticked v.high) where
  pub holds-empty : high_edge v.high ≤ low_edge v.low → Holds (joined_by s v) (s.count + 1) s
  holds-empty h = record {
    canonical = c;
    places = λ x. sym (rw (holds-edges v t u x ∙ outside v (spot x) h) (swapped (is_in (stretches_of s) x) false));
    short = omega arith;
  }

  pub holds-joined : (r : Stretches) → low_edge v.low < high_edge v.high → used r ≡ insert v (used s) → r.count ≤ s.count + 1 → s.count < 32 → Holds (joined_by s v) (s.count + 1) r
  holds-joined r h e few lt =
      let ticked : AllTicked (used r) = rw e (insert-ticked v (used s) t u c.ticked) in
      let rises : Rising 0 (edges (used r)) = rw e (insert-rises v (used s) 0 (edges_rise s c) zero-le h) in
      record {
        canonical = record { fits = omega arith; ticked = ticked; rises = rising_canonical (used r) 0 ticked rises };
        places = λ x. rw e (insert_places v (used s) 0 t u c.ticked (edges_rise s c) x);
        short = few;
      }

-- the union with a set of one stretch
module _ (a b r : Stretches) (long : length b.items ≡ 32) (c : Canonical b) (one : b.count ≡ 1) (d : Interval) where
  first_only : used b ≡ get_or b.items 0 d ∷ []
  first_only =
      let f : take 1 b.items ≡ get_or b.items 0 d ∷ [] = take-suc b.items 0 d (omega arith) in
      rw one f

  pub holds-union : Holds (joined_by a (get_or b.items 0 d)) (a.count + 1) r → Holds (applied Union a b) (a.count + b.count) r
  unfolding exists
  holds-union h = record {
    canonical = h.canonical;
    places = λ x. h.places x ∙ ap (λ (y : Bool). is_in (stretches_of a) x || y) (rw first_only (swapped false (holds (interval_of (get_or b.items 0 d)) x)));
    short = rw one h.short;
  }
