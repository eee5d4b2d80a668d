-- The changes of a set: each is after the one before, and two places that no change parts are both in the set or both out.
use mathlib.Core.Path.{◌≡◌, refl, sym, ◌∙◌, ap, ap₂}
use mathlib.Core.Bool.{Bool, true, false, not, ◌&&◌, cond}
use mathlib.Core.List.{List, [], ◌∷◌, ◌++◌, flat_map, append_assoc}
use mathlib.Core.Option.{Option, none, some}
use Rattle.rules.specs.Basics.{if_some, list_of}
use Rattle.rules.specs.Sets.{Place, next_place, ◌is_before◌, Interval, first_place, last_place, holds, apply, Expression, interval, combine, meant, intervals}
use Rattle.rules.specs.Stretches.{changes_of, insert, sorted, changes, place_before}
use Rattle.rules.proofs.Order.{places, before-total, before-next, previous_number}
use Rattle.rules.proofs.Edges.{since}

-- from low to high, all after c if there is a c
abbrev pub Rising : (c : Option Place) → List Place → Type 0
Rising c [] = Unit {0}
Rising c (x ∷ xs) = (if_some c (◌is_before x) true ≡ true) × Rising (some x) xs

rising_insert : (c : Option Place) (x : Place) (xs : List Place) → if_some c (◌is_before x) true ≡ true → Rising c xs → Rising c (insert x xs)
unfolding insert
rising_insert c x [] h r = (h, tt)
rising_insert c x (y ∷ ys) h r = go (x is_before y) (y is_before x) refl refl (rising_insert (some y) x ys)
  where
    go : (a b : Bool) → x is_before y ≡ a → y is_before x ≡ b → (y is_before x ≡ true → Rising (some y) ys → Rising (some y) (insert x ys))
        → Rising c (cond a (x ∷ y ∷ ys) (cond b (y ∷ insert x ys) (y ∷ ys)))
    go true b d e k = (h, (d, r.1))
    go false true d e k = (r.0, k e r.1)
    go false false d e k = r

rising_sorted : (xs : List Place) → Rising none (sorted xs)
unfolding sorted
rising_sorted [] = tt
rising_sorted (x ∷ xs) = rising_insert none x (sorted xs) refl (rising_sorted xs)

-- no change parts the two places: each is after both or not after both
abbrev pub SameSide : (a b : Place) → List Place → Type 0
SameSide a b [] = Unit {0}
SameSide a b (x ∷ xs) = (a is_before x ≡ b is_before x) × SameSide a b xs

changes-append : (vs ws : List Interval) → flat_map changes_of (vs ++ ws) ≡ flat_map changes_of vs ++ flat_map changes_of ws
unfolding flat_map
changes-append [] ws = refl
changes-append (v ∷ vs) ws = rw (changes-append vs ws, append_assoc (changes_of v)) refl

module _ (a b : Place) where
  side_insert : (x : Place) (xs : List Place) → SameSide a b (insert x xs) → SameSide a b (x ∷ xs)
  unfolding insert
  side_insert x [] h = h
  side_insert x (y ∷ ys) h = go (x is_before y) (y is_before x) refl refl h (side_insert x ys)
    where
      go : (t u : Bool) → x is_before y ≡ t → y is_before x ≡ u → SameSide a b (cond t (x ∷ y ∷ ys) (cond u (y ∷ insert x ys) (y ∷ ys)))
          → (SameSide a b (insert x ys) → SameSide a b (x ∷ ys)) → SameSide a b (x ∷ y ∷ ys)
      go true u d e h k = h
      go false true d e h k = let i = k h.1 in (i.0, (h.0, i.1))
      go false false d e h k = (rw (before-total x y d e) h.0, h)

  side_sorted : (xs : List Place) → SameSide a b (sorted xs) → SameSide a b xs
  unfolding sorted
  side_sorted [] h = tt
  side_sorted (x ∷ xs) h = let i = side_insert x (sorted xs) h in (i.0, side_sorted xs i.1)

  side_append : (xs ys : List Place) → SameSide a b (xs ++ ys) → SameSide a b xs × SameSide a b ys
  side_append [] ys h = (tt, h)
  side_append (x ∷ xs) ys h = let i = side_append xs ys h.1 in ((h.0, i.0), i.1)

  first_side : (f : Option Place) → SameSide a b (list_of f) → since f a ≡ since f b
  first_side none h = refl
  first_side (some f) h = ap not h.0

  last_side : (z : Option Place) → SameSide a b (if_some z (λ x. next_place x ∷ []) [])
      → if_some z (λ x. not (x is_before a)) true ≡ if_some z (λ x. not (x is_before b)) true
  last_side none h = refl
  last_side (some z) h = sym (before-next a z) ∙ h.0 ∙ before-next b z

  interval_side : (v : Interval) → SameSide a b (changes_of v) → holds v a ≡ holds v b
  interval_side v h =
      let i = side_append (list_of (first_place v.low)) (if_some (last_place v.high) (λ x. next_place x ∷ []) []) h in
      ap₂ ◌&&◌ (first_side (first_place v.low) i.0) (last_side (last_place v.high) i.1)

  meant_side : (e : Expression) → SameSide a b (flat_map changes_of (intervals e)) → meant e a ≡ meant e b
  unfolding meant intervals flat_map
  meant_side (interval v) h = interval_side v (side_append (changes_of v) [] h).0
  meant_side (combine o d e) h =
      let i = side_append (flat_map changes_of (intervals d)) (flat_map changes_of (intervals e)) (rw changes-append at h) in
      ap₂ (apply o) (meant_side d i.0) (meant_side e i.1)

-- all changes are after the place before them
pub changes_rise : (e : Expression) → Rising (some (place_before (changes e))) (changes e)
changes_rise e = go (changes e) (rising_sorted (flat_map changes_of (intervals e)))
  where
    go : (xs : List Place) → Rising none xs → Rising (some (place_before xs)) xs
    go [] r = tt
    go (x ∷ xs) r = (omega (places, previous_number x), r.1)

pub meant_steady : (e : Expression) (a b : Place) → SameSide a b (changes e) → meant e a ≡ meant e b
meant_steady e a b h = meant_side a b e (side_sorted a b (flat_map changes_of (intervals e)) h)
