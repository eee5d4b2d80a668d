-- The stretches of a canonical set are the ones that the rules mean, and the only ones.
use Rattle.std.proofs.Common.{◌≡◌, Bool, true, List, [], ◌∷◌, map, ℤ, sym, refl, ap, ◌∙◌, ap₂, true≢false}
use lib.Signed.{le_z, lt_z}
use Rattle.std.specs.Bool.{Decides}
use Rattle.std.specs.Cmp.Lexicographic.{pointwise}
use Rattle.std.proofs.lemmas.Bool.Decides.{Decides-eqb, Decides-like, Decides-and}
use Rattle.std.proofs.lemmas.Slice.Eq.{slice_eq-Decides}
use Rattle.rules.specs.Timestamp.{tick_at}
use Rattle.rules.specs.Sets.{Place, Interval as PageInterval, ◌upto◌, closed_at, union, Expression, interval as single, combine, meant, is_in, AreStretches}
use Rattle.rules.specs.Stretches.{stretches}
use Rattle.rules.proofs.TickOrder.{tick-one}
use Rattle.rules.proofs.Canonical.{canonical-stretches}
use Rattle.rules.proofs.Unique.{stretches_unique}
use Rattle.rules.proofs.Drawing.{is-stretches, apart}
use Rattle.interval.specs.declared.Bound.{Bound}
use Rattle.interval.specs.declared.Bound.TheVariants.{Unbounded, Open, Closed}
use Rattle.interval.specs.declared.Interval.{Interval}
use Rattle.interval.specs.declared.Stretches.{Stretches}
use Rattle.interval.specs.Meaning.{bound_of, interval_of, tick, used, stretches_of, Canonical, SaysSame}
use Rattle.interval.proofs.Items.{same_interval}
use Rattle.interval.specs.contracts.BoundPartialEq.TheImpl.{eq-value as bound}
use Rattle.interval.specs.contracts.IntervalPartialEq.TheImpl.{eq-value as interval}

-- a canonical set's stretches are those of its places
pub are_stretches : {p : Place → Bool} (s : Stretches) → Canonical s → ((x : Place) → is_in (stretches_of s) x ≡ p x) → AreStretches p (stretches_of s)
are_stretches s c h = canonical-stretches c.rises h

-- canonical sets with the same places have the same stretches
pub same-stretches : (s t : Stretches) → Canonical s → Canonical t → ((x : Place) → is_in (stretches_of s) x ≡ is_in (stretches_of t) x) → stretches_of s ≡ stretches_of t
same-stretches s t c d h = stretches_unique (are_stretches s c h) (are_stretches t d (λ x. refl))

-- a canonical set that has the places that an expression means has the stretches that the rules list
pub stretches-meant : (e : Expression) (s : Stretches) → Canonical s → ((x : Place) → is_in (stretches_of s) x ≡ meant e x) → stretches_of s ≡ stretches e
stretches-meant e s c h = is-stretches e (are_stretches s c h)

-- [a, b] and [c, d] stay apart where b is before c, also where they are neighbours, because the gap between them is out
pub stays_apart : (a b c d : ℤ) → le_z a b ≡ true → lt_z b c ≡ true → le_z c d ≡ true
    → let first = closed_at a upto closed_at b in
    let second = closed_at c upto closed_at d in
    (s : Stretches) → Canonical s → ((x : Place) → is_in (stretches_of s) x ≡ meant (combine union (single first) (single second)) x)
    → stretches_of s ≡ first ∷ second ∷ []
stays_apart a b c d f g h s k e = stretches-meant _ s k e ∙ apart a b c d f g h

-- ---- the code's items, from what they mean
bound_one : (a b : Bound) → bound_of a ≡ bound_of b → a ≡ b
bound_one Unbounded Unbounded e = refl
bound_one Unbounded (Open n) e = cc
bound_one Unbounded (Closed n) e = cc
bound_one (Open m) Unbounded e = cc
bound_one (Open m) (Open n) e = let d : tick_at m ≡ tick_at n = cc in ap Open (tick-one m n d)
bound_one (Open m) (Closed n) e = cc
bound_one (Closed m) Unbounded e = cc
bound_one (Closed m) (Open n) e = cc
bound_one (Closed m) (Closed n) e = let d : tick_at m ≡ tick_at n = cc in ap Closed (tick-one m n d)

items_one : (l k : List Interval) → map interval_of l ≡ map interval_of k → l ≡ k
items_one [] [] e = refl
items_one [] (w ∷ k) e = cc
items_one (v ∷ l) [] e = cc
items_one (v ∷ l) (w ∷ k) e =
    let d : interval_of v ≡ interval_of w = cc in
    let p : v.low ≡ w.low = bound_one v.low w.low (ap (λ (i : PageInterval). i.low) d) in
    let q : v.high ≡ w.high = bound_one v.high w.high (ap (λ (i : PageInterval). i.high) d) in
    ap₂ ◌∷◌ (same_interval p q) (items_one l k (cc))

-- ---- `==` of bounds and of intervals, as it is derived
bound_decides : (a b : Bound) → Decides (bound.it a b) (a ≡ b)
bound_decides Unbounded Unbounded = (λ e. refl, λ e. refl)
bound_decides Unbounded (Open n) = (λ e. cc, λ e. cc)
bound_decides Unbounded (Closed n) = (λ e. cc, λ e. cc)
bound_decides (Open m) Unbounded = (λ e. cc, λ e. cc)
bound_decides (Open m) (Open n) = Decides-like _ (ap Open) (ap tick) (Decides-eqb m n)
bound_decides (Open m) (Closed n) = (λ e. cc, λ e. cc)
bound_decides (Closed m) Unbounded = (λ e. cc, λ e. cc)
bound_decides (Closed m) (Open n) = (λ e. cc, λ e. cc)
bound_decides (Closed m) (Closed n) = Decides-like _ (ap Closed) (ap tick) (Decides-eqb m n)

interval_decides : (v w : Interval) → Decides (interval.it v w) (v ≡ w)
interval_decides v w =
    Decides-like _ (λ (p, q). same_interval p q) (λ e. (ap (λ (x : Interval). x.low) e, ap (λ (x : Interval). x.high) e))
    (Decides-and (bound.it v.low w.low) (bound.it v.high w.high) (bound_decides v.low w.low) (bound_decides v.high w.high))

pub items_decide : (l k : List Interval) (r : Bool) → r ≡ pointwise interval.it l k → Decides r (l ≡ k)
items_decide = slice_eq-Decides interval_decides

-- sets have the same places exactly if their stretches are equal
pub says_same : (a b : Stretches) (r : Bool) → Canonical a → Canonical b → Decides r (used a ≡ used b) → SaysSame a b r
says_same a b r c d s = record {
  same = λ e x. ap (λ l. is_in (map interval_of l) x) (s.0 e);
  other = λ e h. true≢false (sym (s.1 (items_one (used a) (used b) (same-stretches a b c d h))) ∙ e);
}
