-- 02-change-requests.md, A1: printing a list of stretches back as a record. Layout follows document 01's example: one space before each
-- attribute, no other white space, `/>` where childless.
use Rattle.std.specs.Prelude.{ℕ, Bool, true, false, not, ◌&&◌, ◌||◌, ltb, length, ℤ, pos, negsuc}
use mathlib.Core.List.{List, [], ◌∷◌, ◌++◌, flat_map}
use Rattle.rules.specs.Basics.{every, bytes}
use Rattle.rules.specs.Refusal.{NOT_WRITABLE, NO_ROOM, Outcome, answered, ◌unless◌, ◌when◌}
use Rattle.rules.specs.Dates.{years_end, timestamp_text}
use Rattle.rules.specs.Invariants.{Side, low, high}
use Rattle.rules.specs.Sets.{Bound, unbounded, open_at, closed_at, Interval, ◌upto◌}
use Rattle.rules.specs.LentLists.{is_improper_list, listed}
use Rattle.rules.specs.Services.{packed, lent_after, overwrite}

-- The record, byte for byte.

-- the flag of a bound; an unbounded end has none
unfoldable pub flag_text : Side → Bound → List ℕ
flag_text side unbounded = []
flag_text side (open_at t) = bytes " " ++ side.flag ++ bytes "=\"false\""
flag_text side (closed_at t) = bytes " " ++ side.flag ++ bytes "=\"true\""

-- a bound as a full timestamp, or as NINF or PINF
unfoldable pub bound_text : Side → Bound → List ℕ
bound_text side unbounded = bytes "<" ++ side.child ++ bytes " nullFlavor=\"" ++ side.infinity ++ bytes "\"/>"
bound_text side (open_at t) = bytes "<" ++ side.child ++ bytes " value=\"" ++ timestamp_text t ++ bytes "\"/>"
bound_text side (closed_at t) = bytes "<" ++ side.child ++ bytes " value=\"" ++ timestamp_text t ++ bytes "\"/>"

-- one IVL_TS `term` a stretch: type, then flags
unfoldable pub term_text : Interval → List ℕ
term_text s =
    bytes "<term xsi:type=\"IVL_TS\"" ++ flag_text low s.low ++ flag_text high s.high ++ bytes ">"
    ++ bound_text low s.low ++ bound_text high s.high ++ bytes "</term>"

-- no stretch is written as one term with both bounds open at 00010101000000.0000+0000
abbrev pub written : List Interval → List Interval
written [] = open_at (pos 0) upto open_at (pos 0) ∷ []
written (s ∷ ss) = s ∷ ss

-- a QSU_TS named `stay`
unfoldable pub record_text : List Interval → List ℕ
record_text ss = bytes "<stay xsi:type=\"QSU_TS\">" ++ flat_map term_text (written ss) ++ bytes "</stay>"

-- a tick in years 0001 to 9999
abbrev pub is_writable_tick : ℤ → Bool
is_writable_tick (pos t) = ltb t years_end
is_writable_tick (negsuc t) = false

abbrev pub is_writable_bound : Bound → Bool
is_writable_bound unbounded = true
is_writable_bound (open_at t) = is_writable_tick t
is_writable_bound (closed_at t) = is_writable_tick t

abbrev pub is_writable_stretch : Interval → Bool
is_writable_stretch s = is_writable_bound s.low && is_writable_bound s.high

-- an improper list, or a tick outside years 0001 to 9999
abbrev pub is_unwritable : (list : List ℕ) → Bool
is_unwritable list = is_improper_list list || not (every is_writable_stretch (listed list))

-- the record of a list: 12 NOT WRITABLE, then 11 NO ROOM exactly if the bytes don't fit
unfoldable pub printing : (list : List ℕ) → (room : ℕ) → Outcome (List ℕ)
printing list room =
    let text = record_text (listed list) in
    answered text unless NOT_WRITABLE when is_unwritable list ++ NO_ROOM when ltb room (length text)

-- bits 8 and up: the record's length in bytes
abbrev pub print_answer : (list record' : List ℕ) → ℕ
print_answer list record' = packed length (printing list (length record'))

abbrev pub print_after : (list record' : List ℕ) → List ℕ
print_after list record' = lent_after (overwrite record') (printing list (length record')) record'
