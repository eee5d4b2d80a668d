-- The user's three demands, in their order and words, as statements about the services, and what the change requests that have landed
-- ask besides. Each number that a request adds joins demand 1's. The law `demands_met` says that the services meet all of it, and
-- `demands_determine` that nothing else does.
use Rattle.std.specs.Prelude.{ℕ, ◌≤◌, ◌≡◌, ◌⊎◌, ◌↔◌, true, not, length, take, ℤ}
use mathlib.Core.List.{List, [], ◌∷◌, ◌++◌, map, Memᴰ}
use Rattle.std.proofs.Math.Option.{some}
use Rattle.rules.specs.Refusal.{Refusal, OFFSET, TOO_LONG, NOT_UTF_8, MARKUP, TYPE, SHAPE, VALUE, DATE, CLOCK, ZONE, RULE, UNKNOWN_BOUND, TOO_MANY, NOT_WRITABLE, NO_ROOM, NO_ROW, TOTAL, DAMAGED, NO_DESK, DAY_FULL, number, precedence, rank, answered, faults_of, ◌when◌}
use Rattle.rules.specs.Utf8.{is_utf8}
use Rattle.rules.specs.Markup.{Element}
use Rattle.rules.specs.Timestamp.{Moment, read_timestamp, tick_of}
use Rattle.rules.specs.Check.{is_offset, shift_by, is_too_long, record_faults, check}
use Rattle.rules.specs.Comparison.{Comparer, comparer_for, or_unknown}
use Rattle.rules.specs.Services.{eight_bytes}
use Rattle.rules.specs.LentLists.{unsigned, signed}
use Rattle.rules.specs.ListingPromise.{number_in, fits, ListingPromise}
use Rattle.rules.specs.ComparisonPromise.{Says, ComparisonPromise}
use Rattle.demands.specs.Services.{Services, result_in, Answers, Compares}
use Rattle.demands.specs.Printing.{PrintPromise}
use Rattle.demands.specs.Years.{YearsPromise}
use Rattle.demands.specs.WrongTimes.{WrongTimesPromise}
use Rattle.demands.specs.LastDay.{LastDayPromise}
use Rattle.demands.specs.Totals.{TotalsPromise}
use Rattle.demands.specs.Desks.{DesksPromise}

-- what reading a timestamp may give
abbrev pub time_refusals : List Refusal
time_refusals = OFFSET ∷ TOO_LONG ∷ VALUE ∷ DATE ∷ CLOCK ∷ ZONE ∷ []

-- what checking may give
abbrev pub record_refusals : List Refusal
record_refusals = OFFSET ∷ TOO_LONG ∷ NOT_UTF_8 ∷ MARKUP ∷ TYPE ∷ SHAPE ∷ VALUE ∷ DATE ∷ CLOCK ∷ ZONE ∷ RULE ∷ []

-- what listing may give
abbrev pub list_refusals : List Refusal
list_refusals = OFFSET ∷ TOO_LONG ∷ NOT_UTF_8 ∷ MARKUP ∷ TYPE ∷ SHAPE ∷ VALUE ∷ DATE ∷ CLOCK ∷ ZONE ∷ RULE ∷ UNKNOWN_BOUND ∷ TOO_MANY ∷ NO_ROOM ∷ []

-- what adding to a day's totals may give: money has no time that could be wrong
abbrev pub add_refusals : List Refusal
add_refusals = NO_DESK ∷ DAMAGED ∷ DAY_FULL ∷ OFFSET ∷ TOO_LONG ∷ NOT_UTF_8 ∷ MARKUP ∷ TYPE ∷ SHAPE ∷ VALUE ∷ RULE ∷ NO_ROW ∷ TOTAL ∷ []

-- 1. "Give the box any bytes and it ends with an answer. Each entry point refuses what is wrong by one number from your rules page, from
-- OFFSET to NO ROOM, and asks nothing of its caller. A refusal hands back that number (in a comparison, also which record it was) and no
-- result, and every lent buffer keeps its bytes."
pub record Demand1 (s : Services) : Type 0 where
  pub order : precedence
      ≡ NO_DESK ∷ DAMAGED ∷ DAY_FULL ∷ OFFSET ∷ TOO_LONG ∷ NOT_UTF_8 ∷ MARKUP ∷ TYPE ∷ SHAPE ∷ VALUE ∷ DATE ∷ CLOCK ∷ ZONE ∷ RULE ∷ UNKNOWN_BOUND ∷ TOO_MANY
      ∷ NOT_WRITABLE ∷ NO_ROOM ∷ NO_ROW ∷ TOTAL ∷ []
  pub numbers : map number precedence ≡ 23 ∷ 21 ∷ 25 ∷ 1 ∷ 2 ∷ 3 ∷ 4 ∷ 5 ∷ 6 ∷ 7 ∷ 13 ∷ 14 ∷ 15 ∷ 8 ∷ 9 ∷ 10 ∷ 12 ∷ 11 ∷ 16 ∷ 17 ∷ []
  pub one_number : (r q : Refusal) → number r ≡ number q → r ≡ q
  pub check_answers : (offset : ℤ) (record' : List ℕ) → Answers record_refusals (λ n. n ≡ 0) (Unit {0}) (s.check_says offset record')
  pub compare_answers : (offset : ℤ) (first second : List ℕ) → Compares record_refusals (s.compare_says offset first second)
  pub list_answers : (offset : ℤ) (record' list : List ℕ)
      → Answers list_refusals (λ n. n ≤ 32) (s.list_leaves offset record' list ≡ list) (s.list_says offset record' list)
  pub tick_answers : (offset : ℤ) (text : List ℕ) (tick : ℤ)
      → Answers time_refusals (λ n. (4 ≤ n) × (n ≤ 18)) (s.tick_leaves offset text tick ≡ tick) (s.tick_says offset text)
  pub cut_answers : (text : List ℕ) (room : ℕ) → Answers (TOO_LONG ∷ NOT_UTF_8 ∷ []) (λ n. n ≤ length text) (Unit {0}) (s.cut_says text room)
  pub print_answers : (list record' : List ℕ)
      → Answers (NOT_WRITABLE ∷ NO_ROOM ∷ []) (λ n. n ≤ 4_735) (s.print_leaves list record' ≡ record') (s.print_says list record')
  pub open_answers : (numbers : List ℕ) → s.open_says numbers ≡ 0
  -- "report and start give only 23 and 21" (A7)
  pub start_answers : (desk : ℕ) (numbers : List ℕ)
      → Answers (NO_DESK ∷ DAMAGED ∷ []) (λ n. n ≡ 0) (s.start_leaves desk numbers ≡ numbers) (s.start_says desk numbers)
  -- 23, 21 and 25 keep a table; other refusals raise a count in it, "demand 1 .. notwithstanding" (A6)
  pub add_answers : (desk : ℕ) (offset : ℤ) (record' numbers : List ℕ)
      → Answers add_refusals (λ n. (n ≡ 1) ⊎ (n ≡ 2))
      (Memᴰ (s.add_says desk offset record' numbers) (23 ∷ 21 ∷ 25 ∷ []) → s.add_leaves desk offset record' numbers ≡ numbers)
      (s.add_says desk offset record' numbers)
  pub report_answers : (desk : ℕ) (numbers report : List ℕ)
      → Answers (NO_DESK ∷ DAMAGED ∷ []) (λ n. n ≤ 16) (s.report_leaves desk numbers report ≡ report) (s.report_says desk numbers)

-- r applies, and nothing that applies stands before it on the ladder
abbrev pub IsFirst : Refusal → (faults : List Refusal) → Type 0
IsFirst r faults = Memᴰ r faults × ((q : Refusal) → Memᴰ q faults → rank r ≤ rank q)

-- every fault of a text as a timestamp, and as a text to cut
abbrev pub time_faults : (offset : ℤ) → List ℕ → List Refusal
time_faults offset text = faults_of (read_timestamp (shift_by offset) text) ++ (OFFSET when not (is_offset offset) ++ TOO_LONG when is_too_long text)

abbrev pub cut_faults : List ℕ → List Refusal
cut_faults text = TOO_LONG when is_too_long text ++ NOT_UTF_8 when not (is_utf8 text)

-- n bytes of a text are whole characters that fit a room, and no more of it are
pub record IsCut (text : List ℕ) (room n : ℕ) : Type 0 where
  pub within : n ≤ length text
  pub fits : n ≤ room
  pub whole : is_utf8 (take n text) ≡ true
  pub most : (m : ℕ) → m ≤ length text → m ≤ room → is_utf8 (take m text) ≡ true → m ≤ n

-- 2. "Accept a record exactly when it meets ISO 21090 as your rules page narrows it. Times, three-way comparison and the cutting of a name
-- answer as that page defines, and a cut keeps the most whole characters that fit."
pub record Demand2 (s : Services) : Type 0 where
  -- a record is accepted exactly if no fault applies anywhere in it, and refused by the first that applies
  pub accepted : (offset : ℤ) (record' : List ℕ) → number_in (s.check_says offset record') ≡ 0 ↔ record_faults offset record' ≡ []
  pub refused : (offset : ℤ) (record' : List ℕ) (r : Refusal) → number_in (s.check_says offset record') ≡ number r ↔ IsFirst r (record_faults offset record')
  -- a timestamp has its tick and precision exactly if it has no fault, and is refused by the first that applies
  pub time : (offset : ℤ) (text : List ℕ) (tick : ℤ) (m : Moment) → read_timestamp (shift_by offset) text ≡ answered m → time_faults offset text ≡ []
      → (number_in (s.tick_says offset text) ≡ 0) × (result_in (s.tick_says offset text) ≡ m.precision) × (s.tick_leaves offset text tick ≡ tick_of m)
  pub time_refused : (offset : ℤ) (text : List ℕ) (r : Refusal) → number_in (s.tick_says offset text) ≡ number r ↔ IsFirst r (time_faults offset text)
  -- two accepted records of one type that is compared get the answer of that type's comparer, unknown if either value is null
  pub comparison : (offset : ℤ) (first second : List ℕ) (a b : Element) (c : Comparer) → check offset first ≡ answered a → check offset second ≡ answered b
      → comparer_for a b ≡ some c → Says (or_unknown c (shift_by offset) a b) (s.compare_says offset first second)
  -- which record is refused, and what holds of the answers
  pub comparison_promise : (offset : ℤ) → ComparisonPromise offset (s.compare_says offset)
  -- a cut is the longest exactly if the text has no fault, and is refused by the first that applies
  pub cut : (text : List ℕ) (room : ℕ) → cut_faults text ≡ [] → (number_in (s.cut_says text room) ≡ 0) × IsCut text room (result_in (s.cut_says text room))
  pub cut_refused : (text : List ℕ) (room : ℕ) (r : Refusal) → number_in (s.cut_says text room) ≡ number r ↔ IsFirst r (cut_faults text)

-- 3. "Take any set of times that passes those rules under the offset agreed .. Whatever bytes it is written in, whichever allowed offset is
-- agreed and whatever list is lent, the following holds .." In one piece: `ListingPromise`.
pub record Demand3 (s : Services) : Type 0 where
  -- the bytes of a number that fits, read back, are the number
  pub read_back : (z : ℤ) → fits z ≡ true → signed (unsigned (eight_bytes z)) ≡ z
  pub listing_promise : (offset : ℤ) (record' list : List ℕ)
      → ListingPromise offset record' (s.list_says offset record' list) list (s.list_leaves offset record' list)

pub record Demands (s : Services) : Type 0 where
  pub one : Demand1 s
  pub two : Demand2 s
  pub three : Demand3 s
  -- request A1
  pub print : PrintPromise s
  -- request A3
  pub years : YearsPromise s
  -- request A4
  pub last_day : LastDayPromise s
  -- request A5
  pub wrong_times : WrongTimesPromise s
  -- requests A6 and A7
  pub totals : TotalsPromise
  pub desks : DesksPromise s
