-- The set that is drawn from merged edges: it holds what the operation says.
use Rattle.std.proofs.Common.{◌≡◌, ℕ, suc, ◌+◌, ◌-◌, ◌*◌, ◌<◌, ◌≤◌, false, List, [], ◌∷◌, ◌++◌, length, get_or, take, set, replicate, refl, ◌∙◌, ⊎_elim, append_assoc, zero-le, add-one, arith, take-suc, take-suc-set}
use lib.ListN.{get_or-append}
use lib.Seq.{get_or_at}
use Rattle.rules.specs.Sets.{apply}
use Rattle.interval.specs.declared.Interval.{Interval}
use Rattle.interval.specs.declared.Stretches.{Stretches}
use Rattle.interval.specs.declared.Op.{Op}
use Rattle.interval.specs.declared.Op.TheVariants.{Union, Intersection, Difference}
use Rattle.interval.specs.Meaning.{op_of, Ticked, AllTicked, used, Canonical, Holds, applied}
use Rattle.interval.specs.Edges.{top, low_edge, high_edge, edges, Rising, Climbs, rank, padded, Inputs, Edged, Merged, Drawn}
use Rattle.interval.proofs.Ranks.{le-or-lt, rank_more, rank_below, rank-append, rank-take, rising_climbs, climbs_rising, rising_next, below_at}
use Rattle.interval.proofs.Places.{spot, spot_below, is_in-within, rising_canonical}
use Rattle.interval.proofs.Sweep.{padded-length}
use Rattle.interval.proofs.Items.{edges-snoc, ticked-snoc, is_in-edges, edges_climb, edges_few, edges-padded}

module _ (n : ℕ) (l : List ℕ) (d : Edged n l) where
  edged_climbs : Climbs 0 l
  edged_climbs = rw d.rest (rising_climbs d.list 0 (65 - length d.list) zero-le d.rises)

  edged-rank : rank l top ≡ n
  edged-rank = rw d.rest (rank-append d.list (65 - length d.list) top (omega arith) ∙ rank_below d.list top d.below ∙ d.count)

  pub edged-length : n ≤ 64 → length l ≡ 65
  edged-length h = rw d.rest (padded-length d.list (omega (arith, d.count)))

  -- the edge at i, and the next one
  pub edge-below : (i : ℕ) → i < n → get_or l i 0 < top
  edge-below i h =
      rw (d.rest, get_or-append d.list (replicate (65 - length d.list) top) 0 i (omega (arith, d.count)))
      (below_at d.list top i 0 d.below (omega (arith, d.count)))

  pub edge-next : n ≤ 64 → (i : ℕ) → i < n → (get_or l i 0 < get_or l (i + 1) 0) × (get_or l (i + 1) 0 ≤ top)
  edge-next most i h =
      ⊎_elim
      (λ (p : n ≤ i + 1).
      let r : 65 - length d.list ≡ suc (64 - length d.list) = omega (arith, d.count) in
      let e : get_or l (i + 1) 0 ≡ top = rw (d.rest, r) (get_or_at d.list top (replicate (64 - length d.list) top) 0 (i + 1) (omega (arith, d.count))) in
      (omega (arith, e, edge-below i h), omega (arith, e)))
      (λ (q : i + 1 < n).
      let e : get_or l i 0 < get_or l (i + 1) 0 =
      rw (
        d.rest,
        get_or-append d.list (replicate (65 - length d.list) top) 0 i (omega (arith, d.count)),
        get_or-append d.list (replicate (65 - length d.list) top) 0 (i + 1) (omega (arith, d.count)),
        add-one,
      )
      (rising_next d.list 0 i 0 d.rises (omega (arith, d.count))) in
      (e, omega (arith, edge-below (i + 1) q)))
      (le-or-lt n (i + 1))

-- one more interval, from its two edges
module _ (l : List ℕ) (items : List Interval) (k : ℕ) (v : Interval) (long : length items ≡ 32) (le : length l ≡ 65) (h : k < 32) where
  stored : take (k + 1) (set items k v) ≡ take k items ++ v ∷ []
  stored = rw add-one (take-suc-set items k v (omega arith))

  pub ticked_more : AllTicked (take k items) → Ticked v.low → Ticked v.high → AllTicked (take (k + 1) (set items k v))
  ticked_more t a b = rw stored (ticked-snoc (take k items) v t a b)

  take_pair : take (2 * (k + 1)) l ≡ take (2 * k) l ++ get_or l (2 * k) 0 ∷ get_or l (2 * k + 1) 0 ∷ []
  take_pair =
      let e : 2 * (k + 1) ≡ suc (2 * k + 1) = omega arith in
      rw (e, take-suc l (2 * k + 1) 0 (omega arith), add-one, take-suc l (2 * k) 0 (omega arith), append_assoc) refl

  pub edges_more : edges (take k items) ≡ take (2 * k) l → low_edge v.low ≡ get_or l (2 * k) 0 → high_edge v.high ≡ get_or l (2 * k + 1) 0
      → edges (take (k + 1) (set items k v)) ≡ take (2 * (k + 1)) l
  edges_more e a b = rw (stored, edges-snoc (take k items) v, take_pair, e, a, b) refl

pub inputs : (a b : Stretches) → Canonical a → Canonical b → a.count + b.count ≤ 32 → Inputs (padded (edges (used a))) (padded (edges (used b)))
inputs a b c d h = record {
  long_a = edges-padded a c;
  long_b = edges-padded b d;
  climbs_a = edges_climb a c;
  climbs_b = edges_climb b d;
  few = omega (arith, edges_few a c, edges_few b d);
}

-- what is in neither set is not in the outcome
pub in_neither : (op : Op) → apply (op_of op) false false ≡ false
in_neither Union = refl
in_neither Intersection = refl
in_neither Difference = refl

pub drawn-holds : (op : Op) (a b r : Stretches) (n : ℕ) (l : List ℕ) → Canonical a → Canonical b → a.count + b.count ≤ 32
    → Merged (apply (op_of op)) (padded (edges (used a))) (padded (edges (used b))) n l → Drawn n l r → Holds (applied op a b) (a.count + b.count) r
drawn-holds op a b r n l ca cb fit m d =
    let few : r.count ≤ a.count + b.count = omega (arith, d.most, m.short, edges_few a ca, edges_few b cb) in
    let rises : Rising 0 (edges (used r)) =
    rw d.edges_are (climbs_rising l 0 (2 * r.count) (edged_climbs n l m.edged) (omega (arith, d.most, edged-rank n l m.edged))) in
    record {
      canonical = record { fits = omega (arith, few); ticked = d.ticked; rises = rising_canonical (used r) 0 d.ticked rises };
      places = λ x.
          let short : rank l (suc (spot x)) ≤ 2 * r.count = omega (arith, rank_more l (suc (spot x)) top (spot_below x), edged-rank n l m.edged, d.fewest) in
          let e0 = is_in-within (used r) 0 d.ticked rises x in
          let e1 = d.edges_are in
          let e2 = rank-take l (2 * r.count) (suc (spot x)) short in
          let e3 = m.agrees (spot x) (spot_below x) in
          let e4 = is_in-edges a ca x in
          let e5 = is_in-edges b cb x in
          cc;
      short = few;
    }
