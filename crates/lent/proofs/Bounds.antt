-- Two bounds by their kinds and ticks: those of one stretch, and those between two.
use Rattle.std.proofs.Common.{◌≡◌, ℕ, zero, suc, ◌^◌, ◌<◌, Bool, true, false, not, ◌&&◌, ◌||◌, eqb, ltb, ℤ, sym, refl, ap, ◌∙◌, arith, ltb-true}
use mathlib.Core.Bool.{and-false, or-false, not-not}
use lib.IntN.{pred_ℤ, suc-pred}
use lib.Signed.{le_z, lt_z}
use Rattle.rules.specs.Basics.{if_some}
use Rattle.rules.specs.Sets.{Place, at, gap_after, next_place, ◌is_before◌, last_place, from_low}
use Rattle.rules.specs.LentLists.{Row as PageRow, is_zero, bound_in, is_unbounded, signed}
use Rattle.rules.proofs.Order.{before-next}
use Rattle.lent.specs.Rows.{is_bound, is_in_order, is_faulty}
use Rattle.lent.proofs.Numbers.{signed-most, kind-signed, zero-signed}

-- what the code asks of a bound's numbers, and of two ticks
pub bound_is : (k t : ℕ) → ltb k 3 && (not (eqb k 0) || eqb t 0) ≡ is_bound (signed k) (signed t)
bound_is k t = rw (kind-signed k, zero-signed k, zero-signed t) (ap (ltb k 3 &&◌) (go (eqb k 0)))
  where
    go : (x : Bool) → not x || eqb t 0 ≡ not (x && not (eqb t 0))
    go true = sym (not-not (eqb t 0))
    go false = refl

pub order_is : (a b : ℕ) → a < 2 ^ 64 → b < 2 ^ 64 → (equal : Bool) → lt_z (signed a) (signed b) || equal && eqb a b ≡ is_in_order (signed a) (signed b) equal
order_is a b h k true = sym (signed-most a b h k)
order_is a b h k false = or-false (lt_z (signed a) (signed b))

-- the good kinds
data Kind : ℕ → Type 0 where
  no_end : Kind 0
  is_open : Kind 1
  is_closed : Kind 2

good : (k : ℕ) → k < 3 → Kind k
good zero h = no_end
good (suc zero) h = is_open
good (suc (suc zero)) h = is_closed
good (suc (suc (suc k))) h = absurd (omega arith)

-- ---- a stretch
abbrev row_with : (k : ℕ) → ℤ → (h : ℕ) → ℤ → PageRow
row_with k t h u = record { low_kind = signed k; low_tick = t; high_kind = signed h; high_tick = u }

-- a place is before the one after another exactly if the other is not before it
not-past : (x y : Place) → x is_before next_place y ≡ not (not (not (y is_before x)))
not-past x y = before-next x y ∙ sym (not-not (not (y is_before x)))

-- the last place up to an open high is not before the first exactly if the low's tick is less
open_high : (t u : ℤ) → lt_z t u ≡ not (not (not (lt_z (pred_ℤ u) t)))
open_high t u = rw suc-pred at (not-past (gap_after t) (gap_after (pred_ℤ u)))

-- both ticks are 0, or it is not asked of them
zeros : (x y : Bool) → not (not x) && not (not y) && true ≡ not (not x || not y || false)
zeros true true = refl
zeros true false = refl
zeros false true = refl
zeros false false = refl

-- what the code asks of a stretch's numbers is what the rules do
abbrev IsStretch : (k : ℕ) → ℤ → (h : ℕ) → ℤ → Type 0
IsStretch k t h u = (is_bound (signed k) t && is_bound (signed h) u) && (eqb k 0 || eqb h 0 || is_in_order t u (eqb k 2 && eqb h 2)) ≡ not (is_faulty (row_with k t h u))

stretch_good : {k h : ℕ} → Kind k → Kind h → (t u : ℤ) → IsStretch k t h u
stretch_good no_end no_end t u = zeros (is_zero t) (is_zero u)
stretch_good no_end is_open t u = zeros (is_zero t) true
stretch_good no_end is_closed t u = zeros (is_zero t) true
stretch_good is_open no_end t u = zeros true (is_zero u)
stretch_good is_open is_open t u = open_high t u
stretch_good is_open is_closed t u = not-past (gap_after t) (at u)
stretch_good is_closed no_end t u = zeros true (is_zero u)
stretch_good is_closed is_open t u = open_high t u
stretch_good is_closed is_closed t u = not-past (at t) (at u)

-- a bad kind is no bound's
pub stretch_is : (k h : ℕ) (t u : ℤ) → IsStretch k t h u
stretch_is k h t u = go (ltb k 3) refl (ltb h 3) refl
  where
    go : (x : Bool) → ltb k 3 ≡ x → (y : Bool) → ltb h 3 ≡ y → IsStretch k t h u
    go true e true f = stretch_good (good k (ltb-true k 3 e)) (good h (ltb-true h 3 f)) t u
    go true e false f = simp (kind-signed h, f, and-false)
    go false e y f = rw (kind-signed k, e)

-- ---- between two
-- the same of a high bound and the following low one
abbrev IsParted : (h : ℕ) → ℤ → (l : ℕ) → ℤ → Type 0
IsParted h t l u = (not (eqb h 0) && not (eqb l 0)) && is_in_order t u (eqb h 1 && eqb l 1)
    ≡ not (is_unbounded (bound_in (signed h) t) || is_unbounded (bound_in (signed l) u)
    || if_some (last_place (bound_in (signed h) t)) (λ z. from_low (bound_in (signed l) u) (next_place z)) false)

parted_good : {h l : ℕ} → Kind h → Kind l → (t u : ℤ) → IsParted h t l u
parted_good no_end no_end t u = refl
parted_good no_end is_open t u = refl
parted_good no_end is_closed t u = refl
parted_good is_open no_end t u = refl
parted_good is_open is_open t u = rw suc-pred (sym (not-not (le_z t u)))
parted_good is_open is_closed t u = rw suc-pred (sym (not-not (lt_z t u)))
parted_good is_closed no_end t u = refl
parted_good is_closed is_open t u = sym (not-not (lt_z t u))
parted_good is_closed is_closed t u = sym (not-not (lt_z t u))

pub parted_is : (h l : ℕ) (t u : ℤ) → h < 3 → l < 3 → IsParted h t l u
parted_is h l t u a b = parted_good (good h a) (good l b) t u
