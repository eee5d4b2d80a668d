-- The bridge from the code's edges to the places of the rules: what a set of the code means over the whole line, also below and above
-- every tick. Places are told apart by their numbers, up to those below all ticks and those above them, which no set tells apart.
use Rattle.std.proofs.Common.{◌≡◌, ℕ, suc, ◌+◌, ◌-◌, ◌*◌, ◌^◌, ◌<◌, ◌≤◌, min, true, false, not, ◌&&◌, ◌||◌, ltb, leb, List, [], ◌∷◌, map, sym, refl, ap, ◌∙◌, ap₂, ⊎_elim, zero-le, arith, ltb-true, le-ltb, lt-ltb, le-leb}
use Rattle.rules.specs.Basics.{if_some, exists}
use Rattle.rules.specs.Timestamp.{tick_at}
use Rattle.rules.specs.Sets.{Place, at, gap_after, ◌is_before◌, first_place, holds, is_in}
use Rattle.rules.proofs.Order.{places, up, down, next-number}
use Rattle.rules.proofs.TickOrder.{origin, ticks_apart}
use Rattle.rules.proofs.Edges.{end_place, since, until, past, half_open}
use Rattle.rules.proofs.Canonical.{Canonical as Rises}
use Rattle.interval.specs.declared.Bound.{Bound}
use Rattle.interval.specs.declared.Bound.TheVariants.{Unbounded, Open, Closed}
use Rattle.interval.specs.declared.Interval.{Interval}
use Rattle.interval.specs.Meaning.{bound_of, interval_of, Ticked, AllTicked}
use Rattle.interval.specs.Edges.{top, low_edge, high_edge, edges, Rising, within}
use Rattle.interval.proofs.Ranks.{le-or-lt, not_ltb, within-cons}

-- y has the number e, which some edge has
record Numbered (y : Place) (e : ℕ) : Type 0 where
  number : up y + down origin + 1 ≡ e + (down y + up origin)
  low : 0 < e
  high : e < top

tick-number : (n : ℕ) → n < 2 ^ 60 → Numbered (at (tick_at n)) (2 * n + 1)
tick-number n h = record { number = omega (arith, ticks_apart n); low = omega arith; high = omega arith }

gap-number : (n : ℕ) → n < 2 ^ 60 → Numbered (gap_after (tick_at n)) (2 * n + 2)
gap-number n h = record { number = omega (arith, ticks_apart n, next-number (at (tick_at n))); low = omega arith; high = omega arith }

-- the number of any place: those below all ticks have 0, those above them that of the gap after the last
pub spot : Place → ℕ
spot x = min (2 ^ 61) ((up x + down origin + 1) - (down x + up origin))

pub spot_below : (x : Place) → spot x < top
unfolding spot
spot_below x = omega arith

spot_number : {y : Place} {e : ℕ} → Numbered y e → spot y ≡ e
unfolding spot
spot_number n = omega (arith, n.number, n.high)

pub spot_tick : (n : ℕ) → n < 2 ^ 60 → spot (at (tick_at n)) ≡ 2 * n + 1
spot_tick n h = spot_number (tick-number n h)

pub spot_gap : (n : ℕ) → n < 2 ^ 60 → spot (gap_after (tick_at n)) ≡ 2 * n + 2
spot_gap n h = spot_number (gap-number n h)

-- the order of any place and one where an edge may be, by their numbers
before-edge : (x : Place) {y : Place} {e : ℕ} → Numbered y e → x is_before y ≡ ltb (spot x) e
unfolding spot
before-edge x {y} {e} n =
    ⊎_elim
    (λ (p : e ≤ spot x). rw (le-ltb (spot x) e p) (omega (places, n.number, n.low)))
    (λ (q : spot x < e). rw (lt-ltb (spot x) e q) (omega (places, n.number, n.high)))
    (le-or-lt e (spot x))

-- ---- one bound
since_edge : (b : Bound) → Ticked b → (x : Place) → since (first_place (bound_of b)) x ≡ leb (low_edge b) (spot x)
since_edge Unbounded t x = sym (le-leb 0 (spot x) zero-le)
since_edge (Open n) t x = ap not (before-edge x (gap-number n t)) ∙ not_ltb (spot x) (2 * n + 2)
since_edge (Closed n) t x = ap not (before-edge x (tick-number n t)) ∙ not_ltb (spot x) (2 * n + 1)

until-edge : (b : Bound) → Ticked b → (x : Place) → until (end_place (bound_of b)) x ≡ ltb (spot x) (high_edge b)
until-edge Unbounded t x = sym (lt-ltb (spot x) top (spot_below x))
until-edge (Open n) t x = before-edge x (tick-number n t)
until-edge (Closed n) t x = before-edge x (gap-number n t)

past-edge : (b : Bound) → Ticked b → {y : Place} {e : ℕ} → Numbered y e → past (end_place (bound_of b)) y ≡ ltb (high_edge b) e
past-edge Unbounded t {y} {e} n = sym (le-ltb top e (omega (arith, n.high)))
past-edge (Open k) t {y} {e} n = before-edge (at (tick_at k)) n ∙ ap (λ (s : ℕ). ltb s e) (spot_tick k t)
past-edge (Closed k) t {y} {e} n = before-edge (gap_after (tick_at k)) n ∙ ap (λ (s : ℕ). ltb s e) (spot_gap k t)

high_positive : (b : Bound) → 0 < high_edge b
high_positive Unbounded = omega arith
high_positive (Open n) = omega arith
high_positive (Closed n) = omega arith

-- ---- two bounds: those of one interval, and those between two
opens-edge : (l h : Bound) → Ticked l → Ticked h → if_some (first_place (bound_of l)) (until (end_place (bound_of h))) true ≡ ltb (low_edge l) (high_edge h)
opens-edge Unbounded h t u = sym (lt-ltb 0 (high_edge h) (high_positive h))
opens-edge (Open n) h t u = until-edge h u (gap_after (tick_at n)) ∙ ap (λ (s : ℕ). ltb s (high_edge h)) (spot_gap n t)
opens-edge (Closed n) h t u = until-edge h u (at (tick_at n)) ∙ ap (λ (s : ℕ). ltb s (high_edge h)) (spot_tick n t)

parts-edge : (h l : Bound) → Ticked h → Ticked l → if_some (first_place (bound_of l)) (past (end_place (bound_of h))) false ≡ ltb (high_edge h) (low_edge l)
parts-edge h Unbounded t u = sym (le-ltb (high_edge h) 0 zero-le)
parts-edge h (Open n) t u = past-edge h t (gap-number n u)
parts-edge h (Closed n) t u = past-edge h t (tick-number n u)

-- ---- intervals and sets
pub holds-edges : (v : Interval) → Ticked v.low → Ticked v.high → (x : Place)
    → holds (interval_of v) x ≡ leb (low_edge v.low) (spot x) && ltb (spot x) (high_edge v.high)
holds-edges v t u x = half_open (interval_of v) x ∙ ap₂ ◌&&◌ (since_edge v.low t x) (until-edge v.high u x)

pub is_in-within : (l : List Interval) (b : ℕ) → AllTicked l → Rising b (edges l) → (x : Place) → is_in (map interval_of l) x ≡ within (edges l) (spot x)
unfolding exists
is_in-within [] b t r x = refl
is_in-within (v ∷ l) b t r x =
    let e = high_edge v.high in
    ap₂ ◌||◌ (holds-edges v t.0 t.1 x) (is_in-within l (suc e) t.2 r.1.1 x)
    ∙ sym (within-cons (low_edge v.low) e b (spot x) (edges l) r)

pub rising_canonical : (l : List Interval) (b : ℕ) → AllTicked l → Rising b (edges l) → Rises (map interval_of l)
rising_canonical [] b t r = tt
rising_canonical (v ∷ []) b t r = (opens-edge v.low v.high t.0 t.1 ∙ lt-ltb _ _ r.1.0, tt, tt)
rising_canonical (v ∷ w ∷ l) b t r = (
  opens-edge v.low v.high t.0 t.1 ∙ lt-ltb _ _ r.1.0,
  parts-edge v.high w.low t.1 t.2.0 ∙ lt-ltb _ _ r.1.1.0,
  rising_canonical (w ∷ l) (suc (high_edge v.high)) t.2 r.1.1,
)

pub canonical_rising : (l : List Interval) → AllTicked l → Rises (map interval_of l) → Rising 0 (edges l)
canonical_rising [] t c = tt
canonical_rising (v ∷ l) t c = from v l 0 zero-le t c
  where
    from : (v : Interval) (l : List Interval) (b : ℕ) → b ≤ low_edge v.low → AllTicked (v ∷ l) → Rises (map interval_of (v ∷ l)) → Rising b (edges (v ∷ l))
    from v [] b h t c = (h, (ltb-true _ _ (sym (opens-edge v.low v.high t.0 t.1) ∙ c.0), tt))
    from v (w ∷ l) b h t c = (
      h,
      (
        ltb-true _ _ (sym (opens-edge v.low v.high t.0 t.1) ∙ c.0),
        from w l (suc (high_edge v.high)) (ltb-true _ _ (sym (parts-edge v.high w.low t.1 t.2.0) ∙ c.1)) t.2 c.2,
      ),
    )
