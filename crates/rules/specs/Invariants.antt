-- 01-scope.md, "Types, after decoding the five references", and request A4: the invariants, whose breach is RULE.
use Rattle.std.specs.Prelude.{ℕ, Bool, true, false, not, ◌&&◌, ◌||◌, cond, List, ℤ}
use Prim.Native.String.{String}
use Rattle.std.proofs.Math.Option.{Option, none, some}
use Rattle.std.proofs.Math.IntN.{pred_ℤ}
use Rattle.std.specs.Int.Signed.{lt_z}
use Rattle.rules.specs.Basics.{is_some, if_some, exactly_one, exists, words, bytes, is_empty, same}
use Rattle.rules.specs.Refusal.{Outcome, answered, refused}
use Rattle.rules.specs.Markup.{Attribute, Nodes, end, node, lookup}
use Rattle.rules.specs.Timestamp.{Moment, tick_at, tick_of, is_coarse, read_timestamp}

-- the element carries the attribute
abbrev pub has : String → List Attribute → Bool
has n attrs = is_some (lookup (bytes n) attrs)

-- the element carries the attribute, and its text passes a test
abbrev pub has_such : List ℕ → (List ℕ → Bool) → List Attribute → Bool
has_such n test attrs = if_some (lookup n attrs) test false

-- an element that carries a nullFlavor is null, whatever the text
abbrev pub is_null : List Attribute → Bool
is_null = has "nullFlavor"

abbrev pub has_flavor : List ℕ → List Attribute → Bool
has_flavor f = has_such (bytes "nullFlavor") (same f)

abbrev pub has_children : Nodes → Bool
has_children end = false
has_children (node n attrs kids rest) = true

-- the attributes of the first child of a name
unfoldable pub child_named : List ℕ → Nodes → Option (List Attribute)
child_named c end = none
child_named c (node n attrs kids rest) = cond (same n c) (some attrs) (child_named c rest)

-- whether an element breaks the invariants of its type, by its attributes and children; `shift` is 840 less the agreed offset
abbrev pub Invariant : Type 0
Invariant = (shift : ℕ) → List Attribute → Nodes → Bool

abbrev pub no_invariant : Invariant
no_invariant shift attrs kids = false

-- TS: exactly one of value and nullFlavor
abbrev pub breaks_time : Invariant
breaks_time shift attrs kids = not (exactly_one (has "value" attrs) (is_null attrs))

-- a side of an interval: its child, its flag, the flavor that means unbounded there, the flavor that may not stand there, and whether it pushes
-- a coarse bound to the next unit's start, by whether the bound is closed
pub record Side : Type 0 where
  pub child : List ℕ
  pub flag : List ℕ
  pub infinity : List ℕ
  pub wrong : List ℕ
  pub pushes : (closed : Bool) → Bool

-- an open low is pushed,
abbrev pub low : Side
low = record { child = bytes "low"; flag = bytes "lowClosed"; infinity = bytes "NINF"; wrong = bytes "PINF"; pushes = not }

-- and a closed high
abbrev pub high : Side
high = record { child = bytes "high"; flag = bytes "highClosed"; infinity = bytes "PINF"; wrong = bytes "NINF"; pushes = λ closed. closed }

abbrev pub is_closed : Side → List Attribute → Bool
is_closed side attrs = has_such side.flag (same (bytes "true")) attrs

-- coarser than a second, on a side that pushes it
abbrev pub is_pushed : Side → (closed : Bool) → Moment → Bool
is_pushed side closed m = is_coarse m && side.pushes closed

-- what a side says: a value, that there is no bound, or nothing (the bound is missing, or null otherwise)
pub data Endpoint : Type 0 where
  valued : Moment → Endpoint
  infinite unknown : Endpoint

abbrev pub endpoint_read : Outcome Moment → Endpoint
endpoint_read (answered m) = valued m
endpoint_read (refused r) = unknown

-- what the value of an element says
abbrev pub endpoint_valued : (shift : ℕ) → List Attribute → Endpoint
endpoint_valued shift attrs = if_some (lookup (bytes "value") attrs) (λ text. endpoint_read (read_timestamp shift text)) unknown

abbrev pub endpoint_in : (shift : ℕ) → Side → List Attribute → Endpoint
endpoint_in shift side attrs = cond (is_null attrs) (cond (has_flavor side.infinity attrs) infinite unknown) (endpoint_valued shift attrs)

unfoldable pub endpoint_of : (shift : ℕ) → Side → Nodes → Endpoint
endpoint_of shift side kids = if_some (child_named side.child kids) (endpoint_in shift side) unknown

-- a valued bound has no flag, or an unbounded one has flag `true`
abbrev pub breaks_flag : Side → List Attribute → Endpoint → Bool
breaks_flag side attrs (valued m) = not (is_some (lookup side.flag attrs))
breaks_flag side attrs infinite = is_closed side attrs
breaks_flag side attrs unknown = false

-- low is PINF, or high is NINF
abbrev pub is_wrong : Side → Nodes → Bool
is_wrong side kids = if_some (child_named side.child kids) (has_flavor side.wrong) false

-- the last tick taken in by a closed coarse high, or the high's tick otherwise
abbrev pub last_taken : (closed : Bool) → Moment → ℤ
last_taken closed h = cond (is_pushed high closed h) (pred_ℤ (tick_at h.next)) (tick_of h)

-- low's own tick is after that; `closed` is high's flag
abbrev pub is_crossed : (closed : Bool) → Endpoint → Endpoint → Bool
is_crossed closed (valued l) (valued h) = lt_z (last_taken closed h) (tick_of l)
is_crossed closed (valued l) infinite = false
is_crossed closed (valued l) unknown = false
is_crossed closed infinite h = false
is_crossed closed unknown h = false

abbrev pub breaks_side : Side → Invariant
breaks_side side shift attrs kids = breaks_flag side attrs (endpoint_of shift side kids) || is_wrong side kids

-- IVL_TS
abbrev pub breaks_interval : Invariant
breaks_interval shift attrs kids =
    breaks_side low shift attrs kids || breaks_side high shift attrs kids
    || is_crossed (is_closed high attrs) (endpoint_of shift low kids) (endpoint_of shift high kids)

-- MO: value and currency, both or neither, neither only if null
abbrev pub breaks_money : Invariant
breaks_money shift attrs kids =
    exactly_one (has "value" attrs) (has "currency" attrs) || not (has "value" attrs) && not (is_null attrs)

-- II: root is required unless null
abbrev pub breaks_identifier : Invariant
breaks_identifier shift attrs kids = not (has "root" attrs) && not (is_null attrs)

-- CD: code, name or version lacks a codeSystem; displayName lacks a code; non-null with neither code nor codeSystem
abbrev pub breaks_code : Invariant
breaks_code shift attrs kids =
    (has "code" attrs || has "codeSystemName" attrs || has "codeSystemVersion" attrs) && not (has "codeSystem" attrs)
    || has_children kids && not (has "code" attrs)
    || not (is_null attrs) && not (has "code" attrs) && not (has "codeSystem" attrs)

abbrev pub has_qualifier : String → List Attribute → Bool
has_qualifier q = has_such (bytes "qualifier") (λ text. exists (same (bytes q)) (words text))

-- a part of EN, non-null: no value or an empty one, or both PFX and SFX
abbrev pub breaks_part : Invariant
breaks_part shift attrs kids =
    not (is_null attrs)
    && (not (has_such (bytes "value") (λ text. not (is_empty text)) attrs) || has_qualifier "PFX" attrs && has_qualifier "SFX" attrs)
