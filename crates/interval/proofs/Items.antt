-- The items of a set as edges, which the code stores in an array of 65 with `top` after them.
use Rattle.std.proofs.Common.{◌≡◌, ℕ, zero, suc, ◌+◌, ◌-◌, ◌*◌, ◌<◌, ◌≤◌, false, ◌||◌, List, [], ◌∷◌, ◌++◌, map, length, get_or, take, drop, set, sym, refl, ap, ◌∙◌, append_assoc, zero-le, add-one, arith, drop_of_length-le, length-take, length-take-le, drop-cons, get_or-take, take-suc}
use lib.ListN.{length-map}
use Rattle.rules.specs.Basics.{exists}
use Rattle.rules.specs.Sets.{Place, holds, is_in}
use Rattle.interval.specs.declared.Bound.TheVariants.{Unbounded}
use Rattle.interval.specs.declared.Interval.{Interval}
use Rattle.interval.specs.declared.Stretches.{Stretches}
use Rattle.interval.specs.Meaning.{interval_of, Ticked, AllTicked, used, stretches_of, Canonical}
use Rattle.interval.specs.Edges.{top, low_edge, high_edge, edges, Rising, Climbs, rank, within, padded}
use Rattle.interval.proofs.Ranks.{rank-length, rank-append, rising_climbs}
use Rattle.interval.proofs.Places.{spot, spot_below, is_in-within, canonical_rising}
use Rattle.interval.proofs.Sweep.{length-snoc, store, padded-length}

-- what owning an array of structs tells of its list, for `search`
pub length_mapped : (X Y : Type 0) (f : X → Y) (l : List X) (n : ℕ) → length (map f l) ≡ n → length l ≡ n
length_mapped X Y f l n p = sym (length-map l f) ∙ p

-- what an array of intervals is past its end
abbrev pub nowhere : Interval
nowhere = record { low = Unbounded; high = Unbounded }

-- intervals with the same bounds are the same
pub same_interval : {v w : Interval} → v.low ≡ w.low → v.high ≡ w.high → v ≡ w
same_interval p q = λ i. record { low = p i; high = q i }

-- ---- edges of lists of intervals
edges-length : (l : List Interval) → length (edges l) ≡ 2 * length l
edges-length [] = refl
edges-length (v ∷ l) = omega (arith, edges-length l)

pub edges-snoc : (l : List Interval) (v : Interval) → edges (l ++ v ∷ []) ≡ edges l ++ low_edge v.low ∷ high_edge v.high ∷ []
edges-snoc [] v = refl
edges-snoc (w ∷ l) v = ap (λ (r : List ℕ). low_edge w.low ∷ high_edge w.high ∷ r) (edges-snoc l v)

pub ticked-snoc : (l : List Interval) (v : Interval) → AllTicked l → Ticked v.low → Ticked v.high → AllTicked (l ++ v ∷ [])
ticked-snoc [] v t a b = (a, b, tt)
ticked-snoc (w ∷ l) v t a b = (t.0, t.1, ticked-snoc l v t.2 a b)

pub ticked-at : (l : List Interval) (k : ℕ) (d : Interval) → AllTicked l → k < length l → Ticked (get_or l k d).low × Ticked (get_or l k d).high
ticked-at [] k d t h = absurd (omega arith)
ticked-at (v ∷ l) zero d t h = (t.0, t.1)
ticked-at (v ∷ l) (suc k) d t h = ticked-at l k d t.2 (omega arith)

-- two edges stored at the end of padded edges
store_pair : (l : List ℕ) (k a e : ℕ) → length l ≡ 2 * k → k < 32 → set (set (padded l) (2 * k) a) (2 * k + 1) e ≡ padded (l ++ a ∷ e ∷ [])
store_pair l k a e h lt =
    rw (store l (2 * k) a h (omega arith), store (l ++ a ∷ []) (2 * k + 1) e (omega (arith, length-snoc l a)) (omega arith))
    (ap padded (append_assoc l (a ∷ []) (e ∷ [])))

-- ---- the items in use, one after another
module _ (l : List Interval) (k : ℕ) (h : k < length l) (d : Interval) where
  -- the edges of one more item
  pub edges-stored : length l ≤ 32 → let v = get_or l k d in set (set (padded (edges (take k l))) (2 * k) (low_edge v.low)) (2 * k + 1) (high_edge v.high) ≡ padded (edges (take (k + 1) l))
  edges-stored most =
      let v = get_or l k d in
      let e : take (k + 1) l ≡ take k l ++ v ∷ [] = rw add-one (take-suc l k d h) in
      let n : length (edges (take k l)) ≡ 2 * k = omega (arith, edges-length (take k l), length-take-le k l (omega arith)) in
      rw (e, edges-snoc (take k l) v) (store_pair (edges (take k l)) k (low_edge v.low) (high_edge v.high) n (omega arith))

  -- whether a place is in an item, or in one that follows it
  pub is_in-next : (x : Place) → is_in (map interval_of (drop k l)) x ≡ holds (interval_of (get_or l k d)) x || is_in (map interval_of (drop (k + 1) l)) x
  unfolding exists
  is_in-next x = rw (drop-cons l k d h, add-one)

pub is_in-past : (l : List Interval) (k : ℕ) (x : Place) → length l ≤ k → is_in (map interval_of (drop k l)) x ≡ false
unfolding exists
is_in-past l k x h = rw (drop_of_length-le l {i = k} h)

-- ---- one set
module _ (s : Stretches) where
  pub used-short : length (used s) ≤ s.count
  used-short = rw length-take (omega arith)

  module _ (c : Canonical s) where
    pub edges_rise : Rising 0 (edges (used s))
    edges_rise = canonical_rising (used s) c.ticked c.rises

    pub is_in-edges : (x : Place) → is_in (stretches_of s) x ≡ within (padded (edges (used s))) (spot x)
    is_in-edges x =
        is_in-within (used s) 0 c.ticked edges_rise x
        ∙ sym (rw (rank-append (edges (used s)) (65 - length (edges (used s))) (suc (spot x)) (spot_below x)) refl)

    pub edges_climb : Climbs 0 (padded (edges (used s)))
    edges_climb = rising_climbs (edges (used s)) 0 (65 - length (edges (used s))) zero-le edges_rise

    pub edges_few : rank (padded (edges (used s))) top ≤ 2 * s.count
    edges_few =
        rw (rank-append (edges (used s)) (65 - length (edges (used s))) top (omega arith))
        (omega (arith, rank-length (edges (used s)) top, edges-length (used s), used-short))

    pub edges-padded : length (padded (edges (used s))) ≡ 65
    edges-padded = padded-length (edges (used s)) (omega (arith, edges-length (used s), used-short, c.fits))

  module _ (long : length s.items ≡ 32) (fits : s.count ≤ 32) where
    pub used-length : length (used s) ≡ s.count
    used-length = length-take-le s.count s.items (omega arith)

    pub used-ticked : (k : ℕ) → k < s.count → (d : Interval) → AllTicked (used s) → Ticked (get_or s.items k d).low × Ticked (get_or s.items k d).high
    used-ticked k h d t = rw (get_or-take s.count s.items k d h) at (ticked-at (used s) k d t (rw used-length h))
