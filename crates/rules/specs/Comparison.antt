-- 01-scope.md, "Yes, no, unknown".
use Rattle.std.specs.Prelude.{ℕ, Bool, true, false, ◌&&◌, ◌||◌, cond, List, ltb, eqb, ℤ}
use Rattle.std.proofs.Math.Option.{Option, none, some}
use Rattle.std.specs.Int.Signed.{le_z}
use Rattle.rules.specs.Basics.{if_some, bytes, same}
use Rattle.rules.specs.Parsers.{whole}
use Rattle.rules.specs.Markup.{Attribute, Nodes, end, node, Element, lookup}
use Rattle.rules.specs.Timestamp.{Moment}
use Rattle.rules.specs.Forms.{amount_text}
use Rattle.rules.specs.Invariants.{has, is_null, Side, low, high, Endpoint, valued, infinite, unknown, endpoint_valued, endpoint_of}
use Rattle.rules.specs.Types.{Kind, TS, IVL_TS, QSU_TS, QSI_TS, QSD_TS, MO, II, CD, EN, DisplayName, Part, all_types, has_type, type_among}

pub data Answer : Type 0 where
  Yes No Unknown : Answer

abbrev pub answer : Bool → Answer
answer true = Yes
answer false = No

-- any no gives no, else any unknown gives unknown, else yes
infixr 30 ◌also◌
abbrev pub ◌also◌ : Answer → Answer → Answer
Yes also b = b
No also b = No
Unknown also Yes = Unknown
Unknown also No = No
Unknown also Unknown = Unknown

-- absence is equal only to absence
abbrev pub same_option : {A : Type 0} → (A → A → Bool) → Option A → Option A → Bool
same_option test none none = true
same_option test none (some b) = false
same_option test (some a) none = false
same_option test (some a) (some b) = test a b

abbrev pub same_attribute : List ℕ → List Attribute → List Attribute → Bool
same_attribute n as' bs = same_option same (lookup n as') (lookup n bs)

-- how two values of a type, neither null, are compared
abbrev pub Comparer : Type 0
Comparer = (shift : ℕ) → Element → Element → Answer

-- two spans share a tick
abbrev pub share_tick : Moment → Moment → Bool
share_tick a b = ltb a.start b.next && ltb b.start a.next

-- yes if precision and tick are the same; no if the spans share no tick; else unknown
unfoldable pub compare_moments : Moment → Moment → Answer
compare_moments a b = cond (eqb a.precision b.precision && eqb a.start b.start) Yes (cond (share_tick a b) Unknown No)

-- unbounded equals unbounded and differs from a value; `flags` says whether the flags are the same
abbrev pub compare_endpoints : (flags : Bool) → Endpoint → Endpoint → Answer
compare_endpoints flags (valued a) (valued b) = compare_moments a b also answer flags
compare_endpoints flags (valued a) infinite = No
compare_endpoints flags (valued a) unknown = Unknown
compare_endpoints flags infinite (valued b) = No
compare_endpoints flags infinite infinite = Yes
compare_endpoints flags infinite unknown = Unknown
compare_endpoints flags unknown b = Unknown

-- TS
abbrev pub compare_times : Comparer
compare_times shift a b = compare_endpoints true (endpoint_valued shift a.attrs) (endpoint_valued shift b.attrs)

-- IVL_TS: lows, highs, and flags of sides where both are valued
abbrev pub compare_sides : Side → Comparer
compare_sides side shift a b =
    compare_endpoints (same_attribute side.flag a.attrs b.attrs) (endpoint_of shift side a.kids) (endpoint_of shift side b.kids)

abbrev pub compare_intervals : Comparer
compare_intervals shift a b = compare_sides low shift a b also compare_sides high shift a b

-- MO: amount, as a number, and currency
abbrev pub amount_of : List Attribute → Option ℤ
amount_of attrs = if_some (lookup (bytes "value") attrs) (whole amount_text) none

abbrev pub same_amount : ℤ → ℤ → Bool
same_amount m n = le_z m n && le_z n m

abbrev pub compare_money : Comparer
compare_money shift a b =
    answer (same_option same_amount (amount_of a.attrs) (amount_of b.attrs) && same_attribute (bytes "currency") a.attrs b.attrs)

-- II: root and extension
abbrev pub compare_identifiers : Comparer
compare_identifiers shift a b =
    answer (same_attribute (bytes "root") a.attrs b.attrs && same_attribute (bytes "extension") a.attrs b.attrs)

-- CD: code and codeSystem; unknown if either lacks a code
abbrev pub compare_codes : Comparer
compare_codes shift a b =
    cond (has "code" a.attrs && has "code" b.attrs)
    (answer (same_attribute (bytes "code") a.attrs b.attrs && same_attribute (bytes "codeSystem") a.attrs b.attrs))
    Unknown

-- parts compare type and value only; a null part is unknown
abbrev pub compare_parts : List Attribute → List Attribute → Answer
compare_parts as' bs =
    cond (is_null as' || is_null bs) Unknown (answer (same_attribute (bytes "type") as' bs && same_attribute (bytes "value") as' bs))

-- EN: differing part counts give no, else parts in order
unfoldable pub compare_all_parts : Nodes → Nodes → Answer
compare_all_parts end end = Yes
compare_all_parts end (node m bs ls more) = No
compare_all_parts (node n as' ks rest) end = No
compare_all_parts (node n as' ks rest) (node m bs ls more) = compare_parts as' bs also compare_all_parts rest more

abbrev pub compare_names : Comparer
compare_names shift a b = compare_all_parts a.kids b.kids

-- the set types are not compared
unfoldable pub comparer_of : Kind → Option Comparer
comparer_of TS = some compare_times
comparer_of IVL_TS = some compare_intervals
comparer_of QSU_TS = none
comparer_of QSI_TS = none
comparer_of QSD_TS = none
comparer_of MO = some compare_money
comparer_of II = some compare_identifiers
comparer_of CD = some compare_codes
comparer_of EN = some compare_names
comparer_of DisplayName = none
comparer_of Part = none

-- the comparer of two elements: none if their types differ, or are set types
unfoldable pub comparer_for : Element → Element → Option Comparer
comparer_for a b = if_some (type_among all_types a.attrs) (λ k. cond (has_type b.attrs k) (comparer_of k) none) none

-- either value null: unknown
abbrev pub or_unknown : Comparer → Comparer
or_unknown f shift a b = cond (is_null a.attrs || is_null b.attrs) Unknown (f shift a b)
