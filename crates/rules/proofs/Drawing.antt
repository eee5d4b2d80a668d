-- The stretches that are drawn are the stretches of the set.
use mathlib.Core.Path.{◌≡◌, refl, sym, ◌∙◌, ap, ap₂, fun_ext}
use mathlib.Core.Bool.{Bool, true, false, ◌&&◌, ◌||◌, cond, and-true, and-false, or-false}
use mathlib.Core.List.{List, [], ◌∷◌, ◌++◌}
use mathlib.Core.Option.{Option, none, some}
use lib.IntN.{ℤ}
use lib.Signed.{le_z, lt_z}
use Rattle.rules.specs.Basics.{if_some, exists}
use Rattle.rules.specs.Sets.{Place, previous_place, ◌is_before◌, Bound, unbounded, closed_at, Interval, ◌upto◌, first_place, from_low, holds, is_in, AreStretches, union, Expression, interval, combine, meant}
use Rattle.rules.specs.Stretches.{low_at, high_at, changes, drawn, place_before, stretches}
use Rattle.rules.proofs.Order.{places, before_irreflexive}
use Rattle.rules.proofs.Edges.{since, half_open, first-low, end-high, since_up}
use Rattle.rules.proofs.Canonical.{Opens, Follows, Canonical, canonical-stretches}
use Rattle.rules.proofs.Unique.{stretches_unique}
use Rattle.rules.proofs.Changes.{Rising, SameSide, changes_rise, meant_steady}

open_end : (f : Option Place) → Opens f none
open_end none = refl
open_end (some f) = refl

opens_at : (f : Option Place) (c x : Place) → since f c ≡ true → c is_before x ≡ true → Opens f (some x)
opens_at none c x h k = refl
opens_at (some f) c x h k = omega places

rising_down : (c x : Place) (xs : List Place) → c is_before x ≡ true → Rising (some x) xs → Rising (some c) xs
rising_down c x [] h r = tt
rising_down c x (y ∷ ys) h r = (omega places, r.1)

-- what has begun does so after c
abbrev BeginsAfter : Place → Option Bound → Type 0
BeginsAfter c begun = if_some begun (λ l. if_some (first_place l) (c is_before◌) false) true ≡ true

begins-after : (c x : Place) (b : Bool) → c is_before x ≡ true → BeginsAfter c (cond b (some (low_at x)) none)
begins-after c x true h = rw first-low h
begins-after c x false h = refl

-- what has begun holds c
abbrev BegunAt : Place → Option Bound → Type 0
BegunAt c begun = if_some begun (λ l. from_low l c) true ≡ true

begun-at : (l : Bound) (c : Place) (b : Bool) → from_low l c ≡ true → BegunAt c (cond b (some l) none)
begun-at l c true h = h
begun-at l c false h = refl

begun-low : (x : Place) (b : Bool) → BegunAt x (cond b (some (low_at x)) none)
begun-low x b = begun-at (low_at x) x b (rw first-low (omega places))

begun_reaches : (l : Bound) (y : Place) (b : Bool) → if_some (cond b (some l) none) (λ m. from_low m y) false ≡ b && from_low l y
begun_reaches l y true = refl
begun_reaches l y false = refl

drawn-holds : (l : Bound) (x y : Place) → holds (l upto high_at (previous_place x)) y ≡ from_low l y && y is_before x
drawn-holds l x y = half_open (l upto high_at (previous_place x)) y ∙ rw end-high

or_cond : (t a b : Bool) → a && t || cond t false b ≡ cond t a b
or_cond true a b = or-false (a && true) ∙ and-true a
or_cond false a b = rw and-false refl

sides_before : (a b x : Place) (xs : List Place) → a is_before x ≡ true → b is_before x ≡ true → Rising (some x) xs → SameSide a b xs
sides_before a b x [] h k r = tt
sides_before a b x (y ∷ ys) h k r =
    let i : a is_before y ≡ true = omega places in
    let j : b is_before y ≡ true = omega places in
    (i ∙ sym j, sides_before a b y ys i j r.1)

module _ (p : Place → Bool) where
  -- what is drawn at x of a stretch begun at l, if p is t there
  abbrev goes_on : (l : Bound) (x : Place) (xs : List Place) (t : Bool) → List Interval
  goes_on l x xs t = cond t [] (l upto high_at (previous_place x) ∷ []) ++ drawn p (cond t (some l) none) xs

  drawn-follows : (c : Place) (begun : Option Bound) (xs : List Place) → BeginsAfter c begun → Rising (some c) xs → Follows (some c) (drawn p begun xs)
  unfolding drawn
  drawn-follows c none [] b r = tt
  drawn-follows c (some l) [] b r = b
  drawn-follows c none (x ∷ xs) b r = drawn-follows c (cond (p x) (some (low_at x)) none) xs (begins-after c x (p x) r.0) (rising_down c x xs r.0 r.1)
  drawn-follows c (some l) (x ∷ xs) b r =
      elim (p x) as (λ t. Follows (some c) (goes_on l x xs t))
      [ false ↦ b | true ↦ drawn-follows c (some l) xs b (rising_down c x xs r.0 r.1) ]

  drawn-canonical : (c : Place) (begun : Option Bound) (xs : List Place) → BegunAt c begun → Rising (some c) xs → Canonical (drawn p begun xs)
  unfolding drawn
  drawn-canonical c none [] b r = tt
  drawn-canonical c (some l) [] b r = (open_end (first_place l), tt, tt)
  drawn-canonical c none (x ∷ xs) b r = drawn-canonical x (cond (p x) (some (low_at x)) none) xs (begun-low x (p x)) r.1
  drawn-canonical c (some l) (x ∷ xs) b r =
      elim (p x) as (λ t. Canonical (goes_on l x xs t)) [
        | false ↦ (rw end-high (opens_at (first_place l) c x b r.0), rw end-high (drawn-follows x none xs refl r.1), drawn-canonical x none xs refl r.1)
        | true ↦ drawn-canonical x (some l) xs (since_up (first_place l) c x r.0 b) r.1
      ]

  -- what p says at the last of these places that is not after y; b if there is none
  abbrev said : (b : Bool) → Place → List Place → Bool
  said b y [] = b
  said b y (x ∷ xs) = cond (y is_before x) b (said (p x) y xs)

  said-before : (x y : Place) (xs : List Place) → y is_before x ≡ true → Rising (some x) xs → (b : Bool) → said b y xs ≡ b
  said-before x y [] h r b = refl
  said-before x y (z ∷ zs) h r b = let k : y is_before z ≡ true = omega places in rw k refl

  said-from : (x y : Place) (xs : List Place) → Rising (some x) xs → (a b c : Bool) → (y is_before x ≡ true → a ≡ b) → (y is_before x ≡ false → a ≡ c)
      → said a y xs ≡ cond (y is_before x) b (said c y xs)
  said-from x y xs r a b c h k = go (y is_before x) refl
    where
      go : (t : Bool) → y is_before x ≡ t → said a y xs ≡ cond t b (said c y xs)
      go true e = said-before x y xs e r a ∙ h e
      go false e = rw (k e) refl

  drawn-said : (c : Place) (begun : Option Bound) (xs : List Place) → BegunAt c begun → Rising (some c) xs
      → (y : Place) → is_in (drawn p begun xs) y ≡ said (if_some begun (λ l. from_low l y) false) y xs
  unfolding drawn exists
  drawn-said c none [] b r y = refl
  drawn-said c (some l) [] b r y = or-false (from_low l y && true) ∙ and-true (from_low l y)
  drawn-said c none (x ∷ xs) b r y =
      let e = begun_reaches (low_at x) y (p x) in
      drawn-said x (cond (p x) (some (low_at x)) none) xs (begun-low x (p x)) r.1 y
      ∙ said-from x y xs r.1 _ false (p x) (λ h. e ∙ rw (first-low, h) (and-false (p x))) (λ h. e ∙ rw (first-low, h) (and-true (p x)))
  drawn-said c (some l) (x ∷ xs) b r y =
      elim (p x) as (λ t. is_in (goes_on l x xs t) y ≡ cond (y is_before x) (from_low l y) (said t y xs)) [
        | false ↦ ap₂ ◌||◌ (drawn-holds l x y) (drawn-said x none xs refl r.1 y ∙ said-from x y xs r.1 false false false (λ h. refl) (λ h. refl))
            ∙ or_cond (y is_before x) (from_low l y) (said false y xs)
        | true ↦ drawn-said x (some l) xs (since_up (first_place l) c x r.0 b) r.1 y
            ∙ said-from x y xs r.1 (from_low l y) (from_low l y) true (λ h. refl) (λ h. since_up (first_place l) c y (omega places) b)
      ]

  -- p says of each place what it says of the last change before it
  steady_said : (c : Place) (xs : List Place) → Rising (some c) xs → (y : Place)
      → ((z : Place) → z is_before c ≡ false → SameSide z y xs → p z ≡ p y) → said (p c) y xs ≡ p y
  steady_said c [] r y h = h c (before_irreflexive c) tt
  steady_said c (x ∷ xs) r y h = go (y is_before x) refl (λ e. steady_said x xs r.1 y (λ z k s. h z (omega places) (k ∙ sym e, s)))
    where
      go : (t : Bool) → y is_before x ≡ t → (y is_before x ≡ false → said (p x) y xs ≡ p y) → cond t (p c) (said (p x) y xs) ≡ p y
      go true e k = h c (before_irreflexive c) (r.0 ∙ sym e, sides_before c y x xs r.0 e r.1)
      go false e k = k e

-- from low to high, with places between
pub stretches-canonical : (e : Expression) → Canonical (stretches e)
unfolding stretches
stretches-canonical e =
    let p = meant e in
    let c = place_before (changes e) in
    drawn-canonical p c (cond (p c) (some unbounded) none) (changes e) (begun-at unbounded c (p c) refl) (changes_rise e)

pub stretches_are : (e : Expression) → AreStretches (meant e) (stretches e)
unfolding stretches
stretches_are e =
    let p = meant e in
    let xs = changes e in
    let c = place_before xs in
    let begun = cond (p c) (some unbounded) none in
    let begins = begun-at unbounded c (p c) refl in
    let rise = changes_rise e in
    canonical-stretches (stretches-canonical e)
    (λ y. drawn-said p c begun xs begins rise y
    ∙ ap (λ b. said p b y xs) (begun_reaches unbounded y (p c) ∙ and-true (p c))
    ∙ steady_said p c xs rise y (λ z k. meant_steady e z y))

pub is-stretches : (e : Expression) {ss : List Interval} → AreStretches (meant e) ss → ss ≡ stretches e
is-stretches e l = stretches_unique l (stretches_are e)

pub same_list : (a b : Expression) → ((y : Place) → meant a y ≡ meant b y) → stretches a ≡ stretches b
same_list a b h = is-stretches b (rw (fun_ext h) at (stretches_are a))

pub same-times : (a b : Expression) → stretches a ≡ stretches b → (y : Place) → meant a y ≡ meant b y
same-times a b e y = sym ((stretches_are a).all y) ∙ ap (λ ss. is_in ss y) e ∙ (stretches_are b).all y

-- [a, b] and [c, d], where b is before c, are two stretches, also where b and c are neighbours: the gap between them is out
pub apart : (a b c d : ℤ) → le_z a b ≡ true → lt_z b c ≡ true → le_z c d ≡ true
    → let first = closed_at a upto closed_at b in
    let second = closed_at c upto closed_at d in
    stretches (combine union (interval first) (interval second)) ≡ first ∷ second ∷ []
unfolding meant exists
apart a b c d f g h =
    let first = closed_at a upto closed_at b in
    let second = closed_at c upto closed_at d in
    sym (is-stretches (combine union (interval first) (interval second)) (canonical-stretches (f, g, (h, tt, tt)) (λ x. ap (λ q. holds first x || q) (or-false (holds second x)))))
