-- 02-change-requests.md, A1, "Print the stretches back as a record", in its order and words, as statements about the services.
use Rattle.std.specs.Prelude.{ℕ, ◌*◌, ◌^◌, ◌≤◌, ◌<◌, ◌≡◌, ◌⊎◌, ◌↔◌, true, false, length, take, drop, ℤ, pos}
use mathlib.Core.List.{List, [], ◌∷◌, ◌++◌, flat_map}
use Rattle.rules.specs.Basics.{every, bytes}
use Rattle.rules.specs.Refusal.{NOT_WRITABLE, NO_ROOM, number}
use Rattle.rules.specs.Check.{is_offset}
use Rattle.rules.specs.Sets.{Bound, unbounded, open_at, closed_at, Interval}
use Rattle.rules.specs.Listing.{list_numbers}
use Rattle.rules.specs.Services.{eight_bytes}
use Rattle.rules.specs.LentLists.{is_byte, is_improper_list, listed}
use Rattle.rules.specs.Dates.{timestamp_text}
use Rattle.rules.specs.Printing.{term_text, record_text, is_writable_tick, is_writable_stretch, is_unwritable}
use Rattle.rules.specs.ListingPromise.{number_in}
use Rattle.demands.specs.Services.{Services, result_in}

-- the record of no stretch
abbrev pub empty_stay : List ℕ
empty_stay =
    bytes "<stay xsi:type=\"QSU_TS\"><term xsi:type=\"IVL_TS\" lowClosed=\"false\" highClosed=\"false\">"
    ++ bytes "<low value=\"00010101000000.0000+0000\"/><high value=\"00010101000000.0000+0000\"/></term></stay>"

-- no tick, or one of years 0001 to 9999
abbrev pub InYears : Bound → Type 0
InYears unbounded = Unit {0}
InYears (open_at t) = (n : ℕ) × (t ≡ pos n) × (n < 3_155_378_976_000_000)
InYears (closed_at t) = (n : ℕ) × (t ≡ pos n) × (n < 3_155_378_976_000_000)

-- a list that can be printed but for its ticks: it is proper and of bytes, and NOT WRITABLE exactly if a tick lies outside years 0001 to 9999
pub record IsProperList (s : Services) (list : List ℕ) : Type 0 where
  pub proper : is_improper_list list ≡ false
  pub are_bytes : every is_byte list ≡ true
  pub outside : (record' : List ℕ) → number_in (s.print_says list record') ≡ number NOT_WRITABLE ↔ every is_writable_stretch (listed list) ≡ false

-- a text that is read back as a list: checking and listing accept it, and the lent list, of enough room, begins with the list, byte for
-- byte; what lies beyond stays unchanged
pub record ReadsBack (s : Services) (offset : ℤ) (text list lent : List ℕ) : Type 0 where
  pub checked : number_in (s.check_says offset text) ≡ 0
  pub accepted : number_in (s.list_says offset text lent) ≡ 0
  pub as_many : 32 * result_in (s.list_says offset text lent) ≡ length list
  pub begins : every is_byte list ≡ true → take (length list) (s.list_leaves offset text lent) ≡ list
  pub unchanged : drop (length list) (s.list_leaves offset text lent) ≡ drop (length list) lent

-- a text that is printed: its length is returned, and the lent record begins with it; what lies beyond stays unchanged
pub record Prints (text : List ℕ) (answer : ℕ) (before after : List ℕ) : Type 0 where
  pub accepted : number_in answer ≡ 0
  pub length_given : result_in answer ≡ length text
  pub begins : take (length text) after ≡ text
  pub unchanged : drop (length text) after ≡ drop (length text) before

pub record PrintPromise (s : Services) : Type 0 where
  -- "Write any listed set": what listing wrote can be printed but for its ticks
  pub listed_proper : (offset : ℤ) (record' list : List ℕ) → number_in (s.list_says offset record' list) ≡ 0
      → IsProperList s (take (32 * result_in (s.list_says offset record' list)) (s.list_leaves offset record' list))
  -- "as a QSU_TS named `stay`, one IVL_TS `term` a stretch in order": of the stretches whose numbers the list is, in its order
  pub layout : (v : Interval) (ss : List Interval)
      → record_text (v ∷ ss) ≡ bytes "<stay xsi:type=\"QSU_TS\">" ++ flat_map term_text (v ∷ ss) ++ bytes "</stay>"
  pub in_order : (list : List ℕ) → is_unwritable list ≡ false → every is_byte list ≡ true → flat_map eight_bytes (list_numbers (listed list)) ≡ list
  -- "each bound as a full timestamp with four fraction digits and `+0000`": of 18 digits, and the tick whatever offset is agreed
  pub full_timestamp : (offset tick before : ℤ) → is_offset offset ≡ true → is_writable_tick tick ≡ true
      → (s.tick_says offset (timestamp_text tick) ≡ 18 * 2 ^ 8) × (s.tick_leaves offset (timestamp_text tick) before ≡ tick)
      × (drop 19 (timestamp_text tick) ≡ bytes "+0000")
  -- "a tick outside years 0001 to 9999"
  pub outside_years : (v : Interval) → is_writable_stretch v ≡ true ↔ InYears v.low × InYears v.high
  -- "No stretch is written as one term with both bounds open at 00010101000000.0000+0000."
  pub no_stretch : (record' : List ℕ) → length empty_stay ≤ length record' → Prints empty_stay (s.print_says [] record') record' (s.print_leaves [] record')
  -- "Reading the record back lists the same stretches.", whatever offset is agreed
  pub read_back : (list record' : List ℕ) → number_in (s.print_says list record') ≡ 0 → (offset : ℤ) → is_offset offset ≡ true → (lent : List ℕ)
      → length list ≤ length lent → ReadsBack s offset (take (result_in (s.print_says list record')) (s.print_leaves list record')) list lent
  -- "Its byte length is returned."
  pub printed : (list record' : List ℕ) → is_unwritable list ≡ false → length (record_text (listed list)) ≤ length record'
      → Prints (record_text (listed list)) (s.print_says list record') record' (s.print_leaves list record')
  -- "12 NOT WRITABLE for an improper list or a tick outside years 0001 to 9999"; `is_improper_list` has the clauses of "A list is improper if"
  pub not_writable : (list record' : List ℕ)
      → number_in (s.print_says list record') ≡ number NOT_WRITABLE ↔ (is_improper_list list ≡ true) ⊎ (every is_writable_stretch (listed list) ≡ false)
  -- "then 11 exactly if the bytes don't fit"
  pub no_room : (list record' : List ℕ)
      → number_in (s.print_says list record') ≡ number NO_ROOM ↔ (is_unwritable list ≡ false) × (length record' < length (record_text (listed list)))
  -- no sentence says how long a record can be: demand 1 has that it is at most 4,735 bytes, and one has as many
  pub reached : (list : List ℕ) × (record' : List ℕ) × (result_in (s.print_says list record') ≡ 4_735)
