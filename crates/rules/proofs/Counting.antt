-- A set has never more stretches than it has intervals written: each stretch is two turns, and each interval makes two at most.
use Prim.Native.Nat.{ℕ, ◌+◌, ◌*◌, ◌≤◌}
use mathlib.Core.Path.{◌≡◌, refl}
use mathlib.Core.Bool.{Bool, true, false, cond}
use mathlib.Core.List.{List, [], ◌∷◌, ◌++◌}
use mathlib.Core.Option.{Option, none, some}
use native.Mathlib.Omega.{arith}
use native.Mathlib.Nat.{zero-add, add-zero, add_assoc}
use lib.ListN.{length, length-append}
use Rattle.rules.specs.Basics.{is_some, if_some, exactly_one}
use Rattle.rules.specs.Refusal.{Refusal, TYPE, UNKNOWN_BOUND, Outcome, answered, refused, ◌and_then◌, both}
use Rattle.rules.specs.Markup.{Attribute, Nodes, end, node, Element}
use Rattle.rules.specs.Invariants.{is_null}
use Rattle.rules.specs.Types.{IVL_TS, has_type}
use Rattle.rules.specs.Sets.{Place, previous_place, ◌is_before◌, Bound, unbounded, Interval, ◌upto◌, holds, Op, union, intersection, difference, apply, Expression, interval, combine, meant, intervals}
use Rattle.rules.specs.Stretches.{low_at, high_at, changes, drawn, place_before, stretches}
use Rattle.rules.specs.Listing.{interval_of, operation_of, set_from, members_of, joined, set_of, interval_count, intervals_written}
use Rattle.rules.proofs.Order.{places}
use Rattle.rules.proofs.Edges.{first_edge, end_edge, inside, is-inside, since_up, until_down, fails}
use Rattle.rules.proofs.Changes.{Rising, changes_rise}

-- 1 if the two differ
abbrev differ : Bool → Bool → ℕ
differ a b = cond (exactly_one a b) 1 0

-- how often p turns along these places, from b at first to false at last
abbrev turns : (p : Place → Bool) (b : Bool) → List Place → ℕ
turns p b [] = differ b false
turns p b (x ∷ xs) = differ b (p x) + turns p (p x) xs

drawn_turns : (p : Place → Bool) (begun : Option Bound) (xs : List Place) → 2 * length (drawn p begun xs) ≡ differ false (is_some begun) + turns p (is_some begun) xs
unfolding drawn
drawn_turns p none [] = refl
drawn_turns p (some l) [] = refl
drawn_turns p none (x ∷ xs) =
    elim (p x) as (λ t. 2 * length (drawn p (cond t (some (low_at x)) none) xs) ≡ 0 + (differ false t + turns p t xs))
    [ false ↦ omega (arith, drawn_turns p none xs) | true ↦ omega (arith, drawn_turns p (some (low_at x)) xs) ]
drawn_turns p (some l) (x ∷ xs) =
    elim (p x) as (λ t. 2 * length (cond t [] (l upto high_at (previous_place x) ∷ []) ++ drawn p (cond t (some l) none) xs) ≡ 1 + (differ true t + turns p t xs))
    [ false ↦ omega (arith, drawn_turns p none xs) | true ↦ omega (arith, drawn_turns p (some l) xs) ]

same_differ : (b : Bool) → differ b b ≡ 0
same_differ true = refl
same_differ false = refl

one_at_most : (b : Bool) → cond b 1 0 ≤ 1
one_at_most true = omega arith
one_at_most false = omega arith

ap_differ : (g : Bool → Bool) (a b : Bool) → differ (g a) (g b) ≤ differ a b
ap_differ g true true = omega (arith, same_differ (g true))
ap_differ g false false = omega (arith, same_differ (g false))
ap_differ g true false = one_at_most (exactly_one (g true) (g false))
ap_differ g false true = one_at_most (exactly_one (g false) (g true))

module _ (f : Bool → Bool → Bool) where
  both_differ : (a b c d : Bool) → differ (f a c) (f b d) ≤ differ a b + differ c d
  both_differ true true c d = omega (arith, ap_differ (f true) c d)
  both_differ false false c d = omega (arith, ap_differ (f false) c d)
  both_differ true false c d = omega (arith, one_at_most (exactly_one (f true c) (f false d)))
  both_differ false true c d = omega (arith, one_at_most (exactly_one (f false c) (f true d)))

  both_turn : f false false ≡ false → (p q : Place → Bool) (xs : List Place) (a b : Bool)
      → turns (λ y. f (p y) (q y)) (f a b) xs ≤ turns p a xs + turns q b xs
  both_turn e p q [] a b = rw e at (both_differ a false b false)
  both_turn e p q (x ∷ xs) a b = omega (arith, both_differ a (p x) b (q x), both_turn e p q xs (p x) (q x))

module _ (v : Interval) where
  -- after a place that is in, one that is out: all that follow are out
  turns_no_more : (d c : Place) (xs : List Place) → holds v d ≡ true → d is_before c ≡ true → holds v c ≡ false
      → Rising (some c) xs → turns (holds v) false xs ≤ 0
  turns_no_more d c [] i h o r = omega arith
  turns_no_more d c (x ∷ xs) i h o r =
      let out : holds v x ≡ false = fails (λ j. is-inside v c (since_up (first_edge v) d c h (inside v d i).0) (until_down (end_edge v) c x r.0 (inside v x j).1)) o in
      rw out (omega (arith, turns_no_more d x xs i (omega places) out r.1))

  turns_out : (c : Place) (xs : List Place) → holds v c ≡ true → Rising (some c) xs → turns (holds v) true xs ≤ 1
  turns_out c [] i r = omega arith
  turns_out c (x ∷ xs) i r = go (holds v x) refl (λ j. turns_out x xs j r.1)
    where
      go : (b : Bool) → holds v x ≡ b → (holds v x ≡ true → turns (holds v) true xs ≤ 1) → differ true b + turns (holds v) b xs ≤ 1
      go true e h = omega (arith, h e)
      go false e h = omega (arith, turns_no_more c x xs i r.0 e r.1)

  interval_turns : (c : Option Place) (xs : List Place) → Rising c xs → turns (holds v) false xs ≤ 2
  interval_turns c [] r = omega arith
  interval_turns c (x ∷ xs) r = go (holds v x) refl (interval_turns (some x) xs r.1)
    where
      go : (b : Bool) → holds v x ≡ b → turns (holds v) false xs ≤ 2 → differ false b + turns (holds v) b xs ≤ 2
      go true e h = omega (arith, turns_out x xs e r.1)
      go false e h = omega arith

-- what is in neither is out
apply_out : (o : Op) → apply o false false ≡ false
apply_out union = refl
apply_out intersection = refl
apply_out difference = refl

meant_turns : (e : Expression) (c : Option Place) (xs : List Place) → Rising c xs → turns (meant e) false xs ≤ 2 * length (intervals e)
unfolding meant intervals
meant_turns (interval v) c xs r = interval_turns v c xs r
meant_turns (combine o a b) c xs r =
    let h = rw (apply_out o) at (both_turn (apply o) (apply_out o) (meant a) (meant b) xs false false) in
    rw length-append (omega (arith, h, meant_turns a c xs r, meant_turns b c xs r))

pub stretches-at-most : (e : Expression) → length (stretches e) ≤ length (intervals e)
unfolding stretches
stretches-at-most e =
    let c = place_before (changes e) in
    omega (arith, meant_turns e none (c ∷ changes e) (refl, changes_rise e), go (meant e c))
  where
    go : (b : Bool) → 2 * length (drawn (meant e) (cond b (some unbounded) none) (changes e)) ≡ differ false b + turns (meant e) b (changes e)
    go true = drawn_turns (meant e) (some unbounded) (changes e)
    go false = drawn_turns (meant e) none (changes e)

-- a set that is answered has n intervals at most
data AtMost (n : ℕ) : Outcome Expression → Type 0 where
  counted : {s : Expression} → length (intervals s) ≤ n → AtMost n (answered s)
  nothing : {r : Refusal} → AtMost n (refused r)

count : {n : ℕ} {s : Expression} → AtMost n (answered s) → length (intervals s) ≤ n
count (counted h) = h

combined_at-most : (o : Op) {m n : ℕ} {a b : Outcome Expression} → AtMost m a → AtMost n b → AtMost (m + n) (both (combine o) a b)
unfolding intervals
combined_at-most o (counted {s = a} h) (counted {s = b} k) = counted {s = combine o a b} (rw length-append (omega arith))
combined_at-most o (counted h) nothing = nothing
combined_at-most o nothing k = nothing

interval-at-most : (v : Outcome Interval) (n : ℕ) → AtMost (1 + n) (v and_then λ i. answered (interval i))
unfolding intervals
interval-at-most (answered i) n = counted {s = interval i} (omega arith)
interval-at-most (refused r) n = nothing

operation_at-most : (o : Option Op) {n : ℕ} {members : Op → Outcome Expression} → ((j : Op) → AtMost n (members j))
    → AtMost (0 + n) (if_some o members (refused TYPE))
operation_at-most none h = nothing
operation_at-most (some o) h = rw zero-add (h o)

null-at-most : (b : Bool) {n : ℕ} {x : Outcome Expression} → AtMost n x → AtMost n (cond b (refused UNKNOWN_BOUND) x)
null-at-most true h = nothing
null-at-most false h = h

cond_at-most : (b : Bool) (n : ℕ) {x y : Outcome Expression} → AtMost (1 + n) x → AtMost (0 + n) y → AtMost (cond b 1 0 + n) (cond b x y)
cond_at-most true n h k = h
cond_at-most false n h k = k

module _ (shift : ℕ) where
  set-at-most : (attrs : List Attribute) (kids : Nodes) → ((o : Op) → AtMost (interval_count kids) (members_of shift o kids))
      → AtMost (cond (has_type attrs IVL_TS) 1 0 + interval_count kids) (set_from shift attrs kids (λ o. members_of shift o kids))
  unfolding set_from
  set-at-most attrs kids h =
      null-at-most (is_null attrs)
      (cond_at-most (has_type attrs IVL_TS) (interval_count kids) (interval-at-most (interval_of shift attrs kids) (interval_count kids)) (operation_at-most (operation_of attrs) h))

  mutual
    unfolding members_of joined interval_count

    members_at-most : (o : Op) (ns : Nodes) → AtMost (interval_count ns) (members_of shift o ns)
    members_at-most o end = nothing
    members_at-most o (node n attrs kids rest) = joined-at-most o rest (set-at-most attrs kids (λ j. members_at-most j kids))

    joined-at-most : (o : Op) (ns : Nodes) {m : ℕ} {so_far : Outcome Expression} → AtMost m so_far → AtMost (m + interval_count ns) (joined shift o so_far ns)
    joined-at-most o end h = rw add-zero h
    joined-at-most o (node n attrs kids rest) h =
        rw (← add_assoc) (joined-at-most o rest (combined_at-most o h (set-at-most attrs kids (λ j. members_at-most j kids))))

  pub stretches-within : (e : Element) {s : Expression} → set_of shift e ≡ answered s → length (stretches s) ≤ intervals_written e
  unfolding interval_count
  stretches-within e {s} h =
      omega (arith, stretches-at-most s, count (rw h at (set-at-most e.attrs e.kids (λ o. members_at-most o e.kids))))
