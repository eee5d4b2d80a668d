-- The numbers of a list of stretches fit eight bytes, signed: each tick is one that a bound of the record has.
use Prim.Native.Nat.{ℕ, suc, ◌-◌, ◌^◌, ◌≤◌, ◌<◌}
use mathlib.Core.Path.{◌≡◌, refl}
use mathlib.Core.Bool.{Bool, true, false, not, cond}
use mathlib.Core.List.{List, [], ◌∷◌, ◌++◌, flat_map}
use mathlib.Core.Option.{Option, none, some}
use native.Mathlib.Omega.{arith}
use borrow.Author.Tests.{lt-ltb}
use lib.Dec.{ltb}
use lib.IntN.{ℤ, pos, negsuc, sub_ℕ, suc-pred}
use Rattle.rules.specs.Basics.{if_some, list_of, every, bytes}
use Rattle.rules.specs.Refusal.{TYPE, UNKNOWN_BOUND, Outcome, answered, refused, ◌and_then◌, both}
use Rattle.rules.specs.Markup.{Attribute, Nodes, end, node, Element, lookup}
use Rattle.rules.specs.Timestamp.{Moment, read_timestamp, before_start, tick_at, tick_of}
use Rattle.rules.specs.Invariants.{is_null, is_closed, is_pushed, Side, low, high, Endpoint, valued, infinite, unknown, has_flavor, endpoint_read, endpoint_valued, endpoint_in, endpoint_of, child_named}
use Rattle.rules.specs.Types.{IVL_TS, has_type}
use Rattle.rules.specs.Sets.{Place, at, gap_after, next_place, previous_place, ◌is_before◌, Bound, unbounded, open_at, closed_at, Interval, ◌upto◌, first_place, last_place, Op, Expression, interval, combine, meant, intervals}
use Rattle.rules.specs.Stretches.{low_at, high_at, changes_of, insert, sorted, changes, drawn, place_before, stretches}
use Rattle.rules.specs.Listing.{bound_at, value_read, bound_read, interval_of, operation_of, set_from, members_of, joined, set_of, bound_numbers, list_numbers}
use Rattle.rules.specs.ListingPromise.{fits}
use Rattle.rules.proofs.Tests.{every_append}
use Rattle.rules.proofs.Ticks.{ticks_in_60_bits}

abbrev Fits : ℤ → Type 0
Fits t = fits t ≡ true

abbrev BoundFits : Bound → Type 0
BoundFits unbounded = Unit {0}
BoundFits (open_at t) = Fits t
BoundFits (closed_at t) = Fits t

abbrev AllFit : List Interval → Type 0
AllFit [] = Unit {0}
AllFit (s ∷ ss) = BoundFits s.low × BoundFits s.high × AllFit ss

fit_append : (ss rs : List Interval) → AllFit ss → AllFit rs → AllFit (ss ++ rs)
fit_append [] rs h k = k
fit_append (s ∷ ss) rs h k = (h.0, h.1, fit_append ss rs h.2 k)

bound_fits : (b : Bound) → BoundFits b → every fits (bound_numbers b) ≡ true
unfolding every
bound_fits unbounded h = refl
bound_fits (open_at t) h = rw h
bound_fits (closed_at t) h = rw h

numbers_fit : (ss : List Interval) → AllFit ss → every fits (list_numbers ss) ≡ true
unfolding every flat_map
numbers_fit [] h = refl
numbers_fit (s ∷ ss) h =
    every_append fits (bound_numbers s.low ++ bound_numbers s.high) (list_numbers ss)
    (every_append fits (bound_numbers s.low) (bound_numbers s.high) (bound_fits s.low h.0) (bound_fits s.high h.1)) (numbers_fit ss h.2)

-- places at or after such ticks
abbrev PlaceFits : Place → Type 0
PlaceFits (at t) = Fits t
PlaceFits (gap_after t) = Fits t

abbrev PlacesFit : List Place → Type 0
PlacesFit [] = Unit {0}
PlacesFit (x ∷ xs) = PlaceFits x × PlacesFit xs

places-append : (xs ys : List Place) → PlacesFit xs → PlacesFit ys → PlacesFit (xs ++ ys)
places-append [] ys h k = k
places-append (x ∷ xs) ys h k = (h.0, places-append xs ys h.1 k)

first_fits : (b : Bound) → BoundFits b → PlacesFit (list_of (first_place b))
first_fits unbounded h = tt
first_fits (open_at t) h = (h, tt)
first_fits (closed_at t) h = (h, tt)

end_fits : (b : Bound) → BoundFits b → PlacesFit (if_some (last_place b) (λ x. next_place x ∷ []) [])
end_fits unbounded h = tt
end_fits (open_at t) h = (rw suc-pred h, tt)
end_fits (closed_at t) h = (h, tt)

changes-fit : (vs : List Interval) → AllFit vs → PlacesFit (flat_map changes_of vs)
unfolding flat_map
changes-fit [] h = tt
changes-fit (v ∷ vs) h =
    places-append (changes_of v) (flat_map changes_of vs)
    (places-append (list_of (first_place v.low)) _ (first_fits v.low h.0) (end_fits v.high h.1)) (changes-fit vs h.2)

insert-fits : (x : Place) (xs : List Place) → PlaceFits x → PlacesFit xs → PlacesFit (insert x xs)
unfolding insert
insert-fits x [] h k = (h, tt)
insert-fits x (y ∷ ys) h k = go (x is_before y) (y is_before x) (insert-fits x ys h k.1)
  where
    go : (a b : Bool) → PlacesFit (insert x ys) → PlacesFit (cond a (x ∷ y ∷ ys) (cond b (y ∷ insert x ys) (y ∷ ys)))
    go true b l = (h, k)
    go false true l = (k.0, l)
    go false false l = k

sorted-fits : (xs : List Place) → PlacesFit xs → PlacesFit (sorted xs)
unfolding sorted
sorted-fits [] h = tt
sorted-fits (x ∷ xs) h = insert-fits x (sorted xs) h.0 (sorted-fits xs h.1)

low_fits : (x : Place) → PlaceFits x → BoundFits (low_at x)
low_fits (at t) h = h
low_fits (gap_after t) h = h

high_fits : (x : Place) → PlaceFits x → BoundFits (high_at (previous_place x))
high_fits (at t) h = rw suc-pred h
high_fits (gap_after t) h = h

abbrev BegunFits : Option Bound → Type 0
BegunFits none = Unit {0}
BegunFits (some l) = BoundFits l

begun-fits : (b : Bool) (l : Bound) → BoundFits l → BegunFits (cond b (some l) none)
begun-fits true l h = h
begun-fits false l h = tt

drawn-fits : (p : Place → Bool) (begun : Option Bound) (xs : List Place) → BegunFits begun → PlacesFit xs → AllFit (drawn p begun xs)
unfolding drawn
drawn-fits p none [] h k = tt
drawn-fits p (some l) [] h k = (h, tt, tt)
drawn-fits p none (x ∷ xs) h k = drawn-fits p (cond (p x) (some (low_at x)) none) xs (begun-fits (p x) (low_at x) (low_fits x k.0)) k.1
drawn-fits p (some l) (x ∷ xs) h k =
    elim (p x) as (λ t. AllFit (cond t [] (l upto high_at (previous_place x) ∷ []) ++ drawn p (cond t (some l) none) xs))
    [ false ↦ (h, high_fits x k.0, drawn-fits p none xs tt k.1) | true ↦ drawn-fits p (some l) xs h k.1 ]

stretches-fit : (s : Expression) → AllFit (intervals s) → AllFit (stretches s)
unfolding stretches
stretches-fit s h =
    drawn-fits (meant s) (cond (meant s (place_before (changes s))) (some unbounded) none) (changes s) (begun-fits (meant s (place_before (changes s))) unbounded tt)
    (sorted-fits (flat_map changes_of (intervals s)) (changes-fit (intervals s) h))

-- a difference of two numbers below 2 ^ 60
difference-fits : (a b : ℕ) → a < 2 ^ 60 → b < 2 ^ 60 → Fits (sub_ℕ a b)
difference-fits a b h k = go (ltb a b)
  where
    go : (t : Bool) → Fits (cond t (negsuc (b - suc a)) (pos (a - b)))
    go true = lt-ltb (b - suc a) (2 ^ 63) (omega arith)
    go false = lt-ltb (a - b) (2 ^ 63) (omega arith)

abbrev EndpointFits : Endpoint → Type 0
EndpointFits (valued m) = Fits (tick_of m) × Fits (tick_at m.next)
EndpointFits infinite = Unit {0}
EndpointFits unknown = Unit {0}

abbrev SetFits : Outcome Expression → Type 0
SetFits (answered s) = AllFit (intervals s)
SetFits (refused r) = Unit {0}

bound_at_lem : (closed : Bool) (t : ℤ) → Fits t → BoundFits (bound_at closed t)
bound_at_lem true t h = h
bound_at_lem false t h = h

value_read_lem : (side : Side) (closed : Bool) (m : Moment) → EndpointFits (valued m) → BoundFits (value_read side closed m)
value_read_lem side closed m (h, k) =
    elim (is_pushed side closed m) as (λ b. BoundFits (cond b (bound_at (not closed) (tick_at m.next)) (bound_at closed (tick_of m))))
    [ false ↦ bound_at_lem closed _ h | true ↦ bound_at_lem (not closed) _ k ]

interval-fits : (c d : Bool) (l h : Endpoint) → EndpointFits l → EndpointFits h → SetFits (both ◌upto◌ (bound_read low c l) (bound_read high d h) and_then λ v. answered (interval v))
unfolding intervals
interval-fits c d (valued m) (valued n) i j = (value_read_lem low c m i, value_read_lem high d n j, tt)
interval-fits c d (valued m) infinite i j = (value_read_lem low c m i, tt, tt)
interval-fits c d (valued m) unknown i j = tt
interval-fits c d infinite (valued n) i j = (tt, value_read_lem high d n j, tt)
interval-fits c d infinite infinite i j = (tt, tt, tt)
interval-fits c d infinite unknown i j = tt
interval-fits c d unknown h i j = tt

combined_fits : (o : Op) (x y : Outcome Expression) → SetFits x → SetFits y → SetFits (both (combine o) x y)
unfolding intervals
combined_fits o (answered x) (answered y) h k = fit_append (intervals x) (intervals y) h k
combined_fits o (answered x) (refused q) h k = tt
combined_fits o (refused r) y h k = tt

module _ (shift : ℕ) (most : shift ≤ 1680) where
  value-fits : (text : List ℕ) (o : Outcome Moment) → read_timestamp shift text ≡ o → EndpointFits (endpoint_read o)
  unfolding tick_at
  value-fits text (answered m) e =
      let (s, n) = ticks_in_60_bits shift text m e most in
      (difference-fits m.start before_start s (omega arith), difference-fits m.next before_start n (omega arith))
  value-fits text (refused r) e = tt

  valued_fits : (o : Option (List ℕ)) → EndpointFits (if_some o (λ text. endpoint_read (read_timestamp shift text)) unknown)
  valued_fits none = tt
  valued_fits (some text) = value-fits text _ refl

  null-fits : (a b : Bool) (x : Endpoint) → EndpointFits x → EndpointFits (cond a (cond b infinite unknown) x)
  null-fits true true x h = tt
  null-fits true false x h = tt
  null-fits false b x h = h

  endpoint_fits : (side : Side) (kids : Nodes) → EndpointFits (endpoint_of shift side kids)
  unfolding endpoint_of
  endpoint_fits side kids = go (child_named side.child kids)
    where
      go : (o : Option (List Attribute)) → EndpointFits (if_some o (endpoint_in shift side) unknown)
      go none = tt
      go (some attrs) = null-fits (is_null attrs) (has_flavor side.infinity attrs) (endpoint_valued shift attrs) (valued_fits (lookup (bytes "value") attrs))

  set-fits : (attrs : List Attribute) (kids : Nodes) → ((o : Op) → SetFits (members_of shift o kids)) → SetFits (set_from shift attrs kids (λ o. members_of shift o kids))
  unfolding set_from
  set-fits attrs kids h = go (is_null attrs) (has_type attrs IVL_TS) (operation_of attrs)
    where
      go : (a b : Bool) (o : Option Op)
          → SetFits (cond a (refused UNKNOWN_BOUND)
          (cond b (interval_of shift attrs kids and_then λ v. answered (interval v)) (if_some o (λ j. members_of shift j kids) (refused TYPE))))
      go true b o = tt
      go false true o = interval-fits (is_closed low attrs) (is_closed high attrs) (endpoint_of shift low kids) (endpoint_of shift high kids) (endpoint_fits low kids) (endpoint_fits high kids)
      go false false none = tt
      go false false (some o) = h o

  mutual
    unfolding members_of joined

    members_fit : (o : Op) (ns : Nodes) → SetFits (members_of shift o ns)
    members_fit o end = tt
    members_fit o (node n attrs kids rest) = joined-fits o rest (set_from shift attrs kids (λ j. members_of shift j kids)) (set-fits attrs kids (λ j. members_fit j kids))

    joined-fits : (o : Op) (ns : Nodes) (so_far : Outcome Expression) → SetFits so_far → SetFits (joined shift o so_far ns)
    joined-fits o end so_far h = h
    joined-fits o (node n attrs kids rest) so_far h =
        let member = set_from shift attrs kids (λ j. members_of shift j kids) in
        joined-fits o rest (both (combine o) so_far member) (combined_fits o so_far member h (set-fits attrs kids (λ j. members_fit j kids)))

  pub list-fits : (e : Element) {s : Expression} → set_of shift e ≡ answered s → every fits (list_numbers (stretches s)) ≡ true
  list-fits e {s} h = numbers_fit (stretches s) (stretches-fit s (rw h at (set-fits e.attrs e.kids (λ o. members_fit o e.kids))))
