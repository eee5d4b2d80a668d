-- 01-scope.md, "Yes, no, unknown", and what "The refusal ladder" says of comparing: what comparing two records promises, for every agreed
-- offset. The law `comparison_promise` says that it holds.
use Rattle.std.specs.Prelude.{ℕ, ◌/◌, ◌%◌, ◌^◌, ◌≡◌, Bool, true, false, not, ◌&&◌, ◌||◌, cond, ℤ}
use mathlib.Core.List.{List, [], ◌∷◌, Memᴰ}
use Rattle.std.proofs.Math.Option.{Option, some}
use Rattle.rules.specs.Refusal.{Refusal, TYPE, number, answered, refused}
use Rattle.rules.specs.Markup.{Nodes, end, node, Element}
use Rattle.rules.specs.Invariants.{has, is_null, low, high, endpoint_of}
use Rattle.rules.specs.Types.{Kind, TS, IVL_TS, MO, II, CD, EN, has_type, type_among}
use Rattle.rules.specs.Check.{is_offset, shift_by, check}
use Rattle.rules.specs.Comparison.{Answer, Yes, Unknown}
use Rattle.rules.specs.Services.{answer_number}
use Rattle.rules.specs.ListingPromise.{is_unknown, number_in}

-- the types that are compared: all but the set types
abbrev pub compared_types : List Kind
compared_types = TS ∷ IVL_TS ∷ MO ∷ II ∷ CD ∷ EN ∷ []

-- the record's type, if it is compared
abbrev pub compared_type : Element → Option Kind
compared_type e = type_among compared_types e.attrs

-- one of these parts is null
unfoldable pub has_null_part : Nodes → Bool
has_null_part end = false
has_null_part (node n attrs kids rest) = is_null attrs || has_null_part rest

-- each side is valued or unbounded
abbrev pub has_sides : (shift : ℕ) → Nodes → Bool
has_sides shift kids = not (is_unknown (endpoint_of shift low kids)) && not (is_unknown (endpoint_of shift high kids))

-- nothing that comparison asks about is null or missing: the value is not null; if an interval, each side is valued or unbounded; if a CD,
-- it has a code; if an EN, no part is null
abbrev pub is_complete : (shift : ℕ) → Element → Bool
is_complete shift e =
    not (is_null e.attrs)
    && (not (has_type e.attrs IVL_TS) || has_sides shift e.kids)
    && (not (has_type e.attrs CD) || has "code" e.attrs)
    && (not (has_type e.attrs EN) || not (has_null_part e.kids))

-- the service's answer: the refusal's number in bits 0 to 7, which record is refused in bits 8 to 15, and yes, no or unknown in those above
abbrev pub record_in : ℕ → ℕ
record_in answer = answer / 2 ^ 8 % 2 ^ 8

abbrev pub answer_in : ℕ → ℕ
answer_in answer = answer / 2 ^ 16

-- a refusal of the first or the second record: its number, the record named, and no answer
pub record Names (which : ℕ) (r : Refusal) (answer : ℕ) : Type 0 where
  pub number_given : number_in answer ≡ number r
  pub record_named : record_in answer ≡ which
  pub no_answer : answer_in answer ≡ 0

-- yes, no or unknown: no refusal, and no record is named
pub record Says (x : Answer) (answer : ℕ) : Type 0 where
  pub no_refusal : number_in answer ≡ 0
  pub no_record : record_in answer ≡ 0
  pub answer_given : answer_in answer ≡ answer_number x

module _ (offset : ℤ) where
  -- a record that is accepted, and is of a type that is compared
  pub record IsOf (k : Kind) (record' : List ℕ) (e : Element) : Type 0 where
    pub accepted : check offset record' ≡ answered e
    pub type : compared_type e ≡ some k

  -- the promise, of a service that compares two records
  pub record ComparisonPromise (compare : (first second : List ℕ) → ℕ) : Type 0 where
    -- the first record is checked fully, then the second; the one refused is named
    pub first_refused : (a b : List ℕ) (r : Refusal) → check offset a ≡ refused r → Names 1 r (compare a b)
    pub second_refused : (a b : List ℕ) (e : Element) (r : Refusal) → check offset a ≡ answered e → check offset b ≡ refused r → Names 2 r (compare a b)
    -- if the types differ, or are set types, it is TYPE against the second, also where either value is null
    pub type_refused : (a b : List ℕ) (e f : Element) → check offset a ≡ answered e → check offset b ≡ answered f
        → ((k : Kind) → IsOf k a e → IsOf k b f → ⊥) → Names 2 TYPE (compare a b)
    -- otherwise there is an answer, and it is unknown if either value is null
    pub answer : (k : Kind) (a b : List ℕ) (e f : Element) → IsOf k a e → IsOf k b f → (x : Answer) × Says x (compare a b)
    pub null_unknown : (k : Kind) (a b : List ℕ) (e f : Element) → IsOf k a e → IsOf k b f → (is_null e.attrs || is_null f.attrs) ≡ true → Says Unknown (compare a b)
    -- where both records are accepted, their order changes nothing
    pub symmetric : (a b : List ℕ) (e f : Element) → check offset a ≡ answered e → check offset b ≡ answered f → compare a b ≡ compare b a
    -- a value compared with itself is never no: yes where nothing that comparison asks about is null or missing, else unknown
    pub itself : (k : Kind) (a : List ℕ) (e : Element) → IsOf k a e → Says (cond (is_complete (shift_by offset) e) Yes Unknown) (compare a a)
    -- yes is given only where nothing that comparison asks about is null or missing, in either record
    pub yes_complete : (k : Kind) (a b : List ℕ) (e f : Element) → IsOf k a e → IsOf k b f → Says Yes (compare a b)
        → (is_complete (shift_by offset) e ≡ true) × (is_complete (shift_by offset) f ≡ true)
    -- under every offset that may be agreed and in every type that is compared, each of yes, no and unknown is some records' answer
    pub each_given : is_offset offset ≡ true → (k : Kind) → Memᴰ k compared_types → (x : Answer)
        → (a b : List ℕ) × (e f : Element) × IsOf k a e × IsOf k b f × Says x (compare a b)
