-- 01-scope.md, "Sets of times" and 9 to 11 of "The refusal ladder", and request A4: the set that a record writes, and its list of stretches.
use Rattle.std.specs.Prelude.{ℕ, ◌+◌, Bool, not, cond, ltb, length, ℤ, pos}
use mathlib.Core.List.{List, [], ◌∷◌, ◌++◌, flat_map}
use Rattle.std.proofs.Math.Option.{Option}
use Rattle.rules.specs.Basics.{is_some, if_some, find}
use Rattle.rules.specs.Refusal.{Refusal, TYPE, SHAPE, UNKNOWN_BOUND, TOO_MANY, NO_ROOM, Outcome, answered, refused, ◌unless◌, ◌when◌, ◌and_then◌, both}
use Rattle.rules.specs.Markup.{Attribute, Nodes, end, node, Element}
use Rattle.rules.specs.Timestamp.{Moment, tick_at, tick_of}
use Rattle.rules.specs.Invariants.{is_null, is_closed, is_pushed, Side, low, high, Endpoint, valued, infinite, unknown, endpoint_of}
use Rattle.rules.specs.Types.{Kind, IVL_TS, QSU_TS, QSI_TS, QSD_TS, member_types, has_type, type_among}
use Rattle.rules.specs.Sets.{Bound, unbounded, open_at, closed_at, Interval, ◌upto◌, Op, union, intersection, difference, Expression, interval, combine}
use Rattle.rules.specs.Stretches.{stretches}

-- closed or open at a tick
abbrev pub bound_at : (closed : Bool) → ℤ → Bound
bound_at closed t = cond closed (closed_at t) (open_at t)

-- a value as a bound: one that is pushed is at the next unit's start, open for closed and closed for open; all others are at their tick
abbrev pub value_read : Side → (closed : Bool) → Moment → Bound
value_read side closed m = cond (is_pushed side closed m) (bound_at (not closed) (tick_at m.next)) (bound_at closed (tick_of m))

-- the bound that a side means; one that is missing, or null without being unbounded, is UNKNOWN BOUND
abbrev pub bound_read : Side → (closed : Bool) → Endpoint → Outcome Bound
bound_read side closed (valued m) = answered (value_read side closed m)
bound_read side closed infinite = answered unbounded
bound_read side closed unknown = refused UNKNOWN_BOUND

abbrev pub bound_of : (shift : ℕ) → Side → List Attribute → Nodes → Outcome Bound
bound_of shift side attrs kids = bound_read side (is_closed side attrs) (endpoint_of shift side kids)

abbrev pub interval_of : (shift : ℕ) → List Attribute → Nodes → Outcome Interval
interval_of shift attrs kids = both ◌upto◌ (bound_of shift low attrs kids) (bound_of shift high attrs kids)

abbrev pub type_for : Op → Kind
type_for union = QSU_TS
type_for intersection = QSI_TS
type_for difference = QSD_TS

-- the operation of a set type
abbrev pub operation_of : List Attribute → Option Op
operation_of attrs = find (λ o. has_type attrs (type_for o)) (union ∷ intersection ∷ difference ∷ [])

-- the set that an element writes, of an accepted record; a null one is UNKNOWN BOUND; `members` are its members put together
unfoldable pub set_from : (shift : ℕ) → List Attribute → Nodes → (members : Op → Outcome Expression) → Outcome Expression
set_from shift attrs kids members =
    cond (is_null attrs) (refused UNKNOWN_BOUND)
    (cond (has_type attrs IVL_TS) (interval_of shift attrs kids and_then λ v. answered (interval v)) (if_some (operation_of attrs) members (refused TYPE)))

unfoldable mutual
  -- the members of a set, one or more, put together from the first on
  pub members_of : (shift : ℕ) → Op → Nodes → Outcome Expression
  members_of shift o end = refused SHAPE
  members_of shift o (node n attrs kids rest) = joined shift o (set_from shift attrs kids (λ j. members_of shift j kids)) rest

  -- the set so far, with the members from here on
  pub joined : (shift : ℕ) → Op → (so_far : Outcome Expression) → Nodes → Outcome Expression
  joined shift o so_far end = so_far
  joined shift o so_far (node n attrs kids rest) =
      joined shift o (both (combine o) so_far (set_from shift attrs kids (λ j. members_of shift j kids))) rest

-- the set that a record's element writes
abbrev pub set_of : (shift : ℕ) → Element → Outcome Expression
set_of shift e = set_from shift e.attrs e.kids (λ o. members_of shift o e.kids)

-- the IVL_TS elements among these and inside them
unfoldable pub interval_count : Nodes → ℕ
interval_count end = 0
interval_count (node n attrs kids rest) = cond (has_type attrs IVL_TS) 1 0 + interval_count kids + interval_count rest

-- intervals written: the record's IVL_TS elements
abbrev pub intervals_written : Element → ℕ
intervals_written e = interval_count (node e.name e.attrs e.kids end)

-- listing a type other than IVL_TS or a set type is TYPE, also where the record has further faults
abbrev pub unlisted : Element → List Refusal
unlisted e = TYPE when not (is_some (type_among member_types e.attrs))

-- the stretches of the set that an accepted record's element writes; over 32 intervals are TOO MANY, more stretches than the room are NO ROOM
unfoldable pub list_element : (shift room : ℕ) → Element → Outcome (List Interval)
list_element shift room e = set_of shift e and_then λ s.
    answered (stretches s) unless TOO_MANY when ltb 32 (intervals_written e) ++ NO_ROOM when ltb room (length (stretches s))

-- kind and tick of a bound; four numbers a stretch
abbrev pub bound_numbers : Bound → List ℤ
bound_numbers unbounded = pos 0 ∷ pos 0 ∷ []
bound_numbers (open_at t) = pos 1 ∷ t ∷ []
bound_numbers (closed_at t) = pos 2 ∷ t ∷ []

abbrev pub list_numbers : List Interval → List ℤ
list_numbers = flat_map (λ s. bound_numbers s.low ++ bound_numbers s.high)
