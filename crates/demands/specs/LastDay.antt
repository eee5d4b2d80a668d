-- 02-change-requests.md, A4, "The last day of a pass is a whole day", in its order and words: statements about the services, and about the
-- interval that demand 3 speaks of.
use Rattle.std.specs.Prelude.{ℕ, ◌≤◌, ◌<◌, ◌≡◌, ◌↔◌, Bool, true, false, length, ℤ, pos}
use Prim.Native.String.{String}
use mathlib.Core.List.{List, [], ◌∷◌, ◌++◌, Memᴰ}
use Rattle.std.proofs.Math.Option.{some}
use Rattle.std.proofs.Math.IntN.{suc_ℤ, pred_ℤ}
use Rattle.std.specs.Int.Signed.{lt_z}
use Rattle.rules.specs.Basics.{is_some, bytes}
use Rattle.rules.specs.Refusal.{Refusal, RULE, number, rank, answered}
use Rattle.rules.specs.Markup.{Attribute, Nodes, end, node, Element, lookup, document}
use Rattle.rules.specs.Timestamp.{Zone, Written, is_date, is_clock, is_zone, start_of, tick_at}
use Rattle.rules.specs.Invariants.{is_null, has_flavor, child_named, low, high, is_closed}
use Rattle.rules.specs.Types.{IVL_TS, has_type}
use Rattle.rules.specs.Judge.{Standing, element_faults, top_faults}
use Rattle.rules.specs.Utf8.{is_utf8}
use Rattle.rules.specs.Check.{is_offset, shift_by, is_too_long}
use Rattle.rules.specs.Sets.{Place, Bound, unbounded, open_at, closed_at, Interval, ◌upto◌, holds}
use Rattle.rules.specs.Listing.{bound_at, interval_of, list_numbers}
use Rattle.rules.specs.Comparison.{No, Unknown}
use Rattle.rules.specs.ListingPromise.{number_in, Lists}
use Rattle.rules.specs.ComparisonPromise.{Says}
use Rattle.demands.specs.Services.{Services}
use Rattle.demands.specs.WrongTimes.{Spells}
use Rattle.demands.specs.NextUnits.{written_after}

-- "a bound coarser than a second": it stops before ss
abbrev pub IsCoarse : Written → Type 0
IsCoarse w = length w.parts < 5

abbrev pub IsFine : Written → Type 0
IsFine w = 5 ≤ length w.parts

-- a time of the calendar and the clock
pub record IsPossible (w : Written) : Type 0 where
  pub date : is_date w ≡ true
  pub clock : is_clock w ≡ true
  pub zone : is_zone w.zone ≡ true

-- the tick of what is written, at an agreed offset, and that of "the next unit's start"
abbrev pub tick_on : (offset : ℤ) → Written → ℤ
tick_on offset w = tick_at (start_of (shift_by offset) w)

abbrev pub next_tick : (offset : ℤ) → Written → ℤ
next_tick offset w = tick_on offset (written_after w)

-- a child's value writes a time: the child is the first of its name, it is not null, and the text of its value spells a time that is possible
pub record Writes (kids : Nodes) (child : String) (w : Written) : Type 0 where
  pub attrs : List Attribute
  pub stands : child_named (bytes child) kids ≡ some attrs
  pub not_null : is_null attrs ≡ false
  pub text : List ℕ
  pub value : lookup (bytes "value") attrs ≡ some text
  pub spelled : Spells text w
  pub possible : IsPossible w

-- a child says that there is no bound
pub record Unbounds (kids : Nodes) (child flavor : String) : Type 0 where
  pub attrs : List Attribute
  pub stands : child_named (bytes child) kids ≡ some attrs
  pub flavored : has_flavor (bytes flavor) attrs ≡ true

-- an interval whose bounds are both written and flagged
pub record IsBounded (attrs : List Attribute) (kids : Nodes) (l h : Written) : Type 0 where
  pub low_written : Writes kids "low" l
  pub high_written : Writes kids "high" h
  pub low_flagged : is_some (lookup (bytes "lowClosed") attrs) ≡ true
  pub high_flagged : is_some (lookup (bytes "highClosed") attrs) ≡ true

module _ (offset : ℤ) where
  -- "for a bound coarser than a second, a closed high reads as open at the next unit's start", "all other bounds read as before"
  pub data HighReads (w : Written) : (closed : Bool) → Bound → Type 0 where
    closed_coarse : IsCoarse w → HighReads w true (open_at (next_tick offset w))
    closed_fine : IsFine w → HighReads w true (closed_at (tick_on offset w))
    an_open : HighReads w false (open_at (tick_on offset w))

  -- "and an open low as closed there; all other bounds read as before"
  pub data LowReads (w : Written) : (closed : Bool) → Bound → Type 0 where
    open_coarse : IsCoarse w → LowReads w false (closed_at (next_tick offset w))
    open_fine : IsFine w → LowReads w false (open_at (tick_on offset w))
    a_closed : LowReads w true (closed_at (tick_on offset w))

  -- the bounds of an interval's element
  pub data LowIs (attrs : List Attribute) (kids : Nodes) : Bound → Type 0 where
    written_low : {w : Written} {b : Bound} → Writes kids "low" w → LowReads w (is_closed low attrs) b → LowIs attrs kids b
    no_low : Unbounds kids "low" "NINF" → LowIs attrs kids unbounded

  pub data HighIs (attrs : List Attribute) (kids : Nodes) : Bound → Type 0 where
    written_high : {w : Written} {b : Bound} → Writes kids "high" w → HighReads w (is_closed high attrs) b → HighIs attrs kids b
    no_high : Unbounds kids "high" "PINF" → HighIs attrs kids unbounded

  -- "the last tick taken in by a closed coarse high, or .. the high's tick otherwise"
  pub data LastTick (w : Written) : (closed : Bool) → ℤ → Type 0 where
    closed_coarse : IsCoarse w → LastTick w true (pred_ℤ (next_tick offset w))
    closed_fine : IsFine w → LastTick w true (tick_on offset w)
    an_open : LastTick w false (tick_on offset w)

  -- a record that is such an interval and holds no more than a low and a high, to which nothing applies that stands before RULE
  pub record IsPass (record' : List ℕ) (e : Element) (l h : Written) : Type 0 where
    pub offset_allowed : is_offset offset ≡ true
    pub not_too_long : is_too_long record' ≡ false
    pub utf_8 : is_utf8 record' ≡ true
    pub read : document record' ≡ some e
    pub type : has_type e.attrs IVL_TS ≡ true
    pub not_null : is_null e.attrs ≡ false
    pub bounded : IsBounded e.attrs e.kids l h
    pub two : (a b : List Attribute) × (e.kids ≡ node (bytes "low") a end (node (bytes "high") b end end))
    pub shaped : (q : Refusal) → Memᴰ q (top_faults (shift_by offset) e) → rank RULE ≤ rank q

-- a record is listed as these stretches
abbrev pub ListsAs : Services → (offset : ℤ) → (record' list : List ℕ) → List Interval → Type 0
ListsAs s offset record' list ss = Lists offset record' (s.list_says offset record' list) list (s.list_leaves offset record' list) ss

-- document 01's whole example
abbrev pub stay : List ℕ
stay = bytes "<stay xsi:type=\"QSD_TS\"><minuend xsi:type=\"IVL_TS\" lowClosed=\"true\" highClosed=\"false\"><low value=\"20240501\"/><high value=\"20240504\"/></minuend><subtrahend xsi:type=\"IVL_TS\" lowClosed=\"true\" highClosed=\"true\"><low value=\"2024050212\"/><high value=\"2024050212\"/></subtrahend></stay>"

abbrev pub stay_stretches : List Interval
stay_stretches = closed_at (pos 638501184000000) upto open_at (pos 638502480000000) ∷ closed_at (pos 638502516000000) upto open_at (pos 638503776000000) ∷ []

-- a pass, by its flags and the texts of its bounds
abbrev pub pass : (low_closed low high_closed high : String) → List ℕ
pass c l d h =
    bytes "<pass xsi:type=\"IVL_TS\" lowClosed=\"" ++ bytes c ++ bytes "\" highClosed=\"" ++ bytes d ++ bytes "\"><low value=\"" ++ bytes l
    ++ bytes "\"/><high value=\"" ++ bytes h ++ bytes "\"/></pass>"

-- a set of one term that begins within its last day, by the flag of its high
abbrev pub late_term : (high_closed : String) → List ℕ
late_term d =
    bytes "<stay xsi:type=\"QSU_TS\"><term xsi:type=\"IVL_TS\" lowClosed=\"true\" highClosed=\"" ++ bytes d
    ++ bytes "\"><low value=\"2024043012\"/><high value=\"20240430\"/></term></stay>"

-- the last units of year 9999 coarser than a second, and its last tick, at an offset
abbrev pub last_units : List (List ℕ)
last_units = [] ∷ (12 ∷ []) ∷ (12 ∷ 31 ∷ []) ∷ (12 ∷ 31 ∷ 23 ∷ []) ∷ (12 ∷ 31 ∷ 23 ∷ 59 ∷ []) ∷ []

abbrev pub last_written : Zone → Written
last_written z = record { year = 9999; parts = 12 ∷ 31 ∷ 23 ∷ 59 ∷ 59 ∷ []; fraction = bytes "9999"; zone = z }

pub record LastDayPromise (s : Services) : Type 0 where
  -- the tick of what is written is the one that the timestamp service gives to a text that spells it; the next unit has such a text, up to year 9999,
  -- and the next after its last units starts with year 10000, a tick after the last of 9999
  pub ticks : (offset : ℤ) (text : List ℕ) (w : Written) (tick : ℤ) → is_offset offset ≡ true → length text ≤ 16_384 → Spells text w → IsPossible w
      → s.tick_leaves offset text tick ≡ tick_on offset w
  pub next_spelled : (text : List ℕ) (w : Written) → Spells text w → IsPossible w → IsCoarse w → (written_after w).year ≤ 9999
      → (next : List ℕ) × Spells next (written_after w) × IsPossible (written_after w)
  pub year_10000 : (offset : ℤ) (zone : Zone) (parts : List ℕ) → Memᴰ parts last_units
      → next_tick offset (record { year = 9999; parts = parts; fraction = []; zone = zone }) ≡ suc_ℤ (tick_on offset (last_written zone))
  -- a bound is closed if its flag is `true`
  pub flags : (attrs : List Attribute) → (is_closed low attrs ≡ true ↔ lookup (bytes "lowClosed") attrs ≡ some (bytes "true"))
      × (is_closed high attrs ≡ true ↔ lookup (bytes "highClosed") attrs ≡ some (bytes "true"))
  -- "From now on, for a bound coarser than a second, a closed high reads as open at the next unit's start and an open low as closed there; all other
  -- bounds read as before. .. Demand 3 holds with this meaning of a bound": the interval that demand 3 speaks of is the one that its bounds read as
  pub bounds : (offset : ℤ) (attrs : List Attribute) (kids : Nodes) (v : Interval)
      → interval_of (shift_by offset) attrs kids ≡ answered v ↔ LowIs offset attrs kids v.low × HighIs offset attrs kids v.high
  -- by itself it is listed so, if a place is between them
  pub lists : (offset : ℤ) (record' list : List ℕ) (e : Element) (v : Interval) → number_in (s.check_says offset record') ≡ 0 → document record' ≡ some e
      → has_type e.attrs IVL_TS ≡ true → is_null e.attrs ≡ false → LowIs offset e.attrs e.kids v.low → HighIs offset e.attrs e.kids v.high
      → ((x : Place) → holds v x ≡ true → 32 ≤ length list → ListsAs s offset record' list (v ∷ []))
      × (((x : Place) → holds v x ≡ false) → ListsAs s offset record' list [])
  -- "RULE for crossed bounds is given when low's tick is after the last tick taken in by a closed coarse high, or after the high's tick otherwise":
  -- RULE is among the faults of an interval, wherever it stands, exactly then, those of its children aside
  pub crossed : (offset : ℤ) (p : Standing) (attrs : List Attribute) (kids : Nodes) (l h : Written) (last : ℤ) → is_null attrs ≡ false → IsBounded attrs kids l h
      → LastTick offset h (is_closed high attrs) last
      → Memᴰ RULE (element_faults (shift_by offset) p (some IVL_TS) attrs kids (λ k. [])) ↔ lt_z last (tick_on offset l) ≡ true
  -- a record of it is RULE then, and else accepted
  pub checks : (offset : ℤ) (record' : List ℕ) (e : Element) (l h : Written) (last : ℤ) → IsPass offset record' e l h → LastTick offset h (is_closed high e.attrs) last
      → (number_in (s.check_says offset record') ≡ number RULE ↔ lt_z last (tick_on offset l) ≡ true)
      × (number_in (s.check_says offset record') ≡ 0 ↔ lt_z last (tick_on offset l) ≡ false)
  -- and so within a set: a term that begins within its last day is accepted if that is closed, and else RULE
  pub within_set : (list : List ℕ) → 32 ≤ length list → ListsAs s (pos 0) (late_term "true") list (closed_at (pos 638500752000000) upto open_at (pos 638501184000000) ∷ [])
  pub rule_within_set : number_in (s.check_says (pos 0) (late_term "false")) ≡ number RULE
  -- "a low pushed past its high means no place": the pass from after 2024 to all of June 2024 is accepted, and nothing is listed
  pub pushed_past : (c d : Bool) (l h : ℤ) → lt_z h l ≡ true → (x : Place) → holds (bound_at c l upto bound_at d h) x ≡ false
  pub listed_none : (list : List ℕ) → ListsAs s (pos 0) (pass "false" "2024" "true" "202406") list []
  -- "Document 01's whole example now lists `2, 638501184000000, 1, 638502480000000, 2, 638502516000000, 1, 638503776000000`"
  pub example : (list : List ℕ) → 64 ≤ length list → ListsAs s (pos 0) stay list stay_stretches
  pub example_numbers : list_numbers stay_stretches
      ≡ pos 2 ∷ pos 638501184000000 ∷ pos 1 ∷ pos 638502480000000 ∷ pos 2 ∷ pos 638502516000000 ∷ pos 1 ∷ pos 638503776000000 ∷ []
  -- "The rules of comparison are unchanged": they go by values and flags as written. Two passes that are listed as all of April differ, and so does a third;
  -- and all of 30 April and its noon share a tick, so it is unknown
  pub april : (list : List ℕ) → 32 ≤ length list → (record' : List ℕ) → Memᴰ record' (pass "true" "20240401" "true" "20240430" ∷ pass "true" "20240401" "false" "20240501" ∷ pass "false" "20240331" "true" "20240430" ∷ [])
      → ListsAs s (pos 0) record' list (closed_at (pos 638475264000000) upto open_at (pos 638501184000000) ∷ [])
  pub compared : Says No (s.compare_says (pos 0) (pass "true" "20240401" "true" "20240430") (pass "true" "20240401" "false" "20240501"))
      × Says No (s.compare_says (pos 0) (pass "true" "20240401" "true" "20240430") (pass "false" "20240331" "true" "20240430"))
      × Says Unknown (s.compare_says (pos 0) (pass "true" "20240401" "true" "20240430") (pass "true" "20240401" "true" "20240430120000"))
