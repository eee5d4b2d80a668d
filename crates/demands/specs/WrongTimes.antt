-- 02-change-requests.md, A5, "Tell the clinic which part of the time is wrong", in its order and words, as statements about the services.
use Rattle.std.specs.Prelude.{ℕ, suc, ◌+◌, ◌*◌, ◌≤◌, ◌<◌, ◌≡◌, ◌⊎◌, ◌↔◌, true, false, cond, ltb, length, ℤ, pos}
use Prim.Native.String.{String}
use mathlib.Core.List.{List, [], ◌∷◌, ◌++◌, map, flat_map, Memᴰ}
use Rattle.std.proofs.Math.Option.{some}
use Rattle.rules.specs.Basics.{is_some, every, bytes, same, digits_of}
use Rattle.rules.specs.Refusal.{Refusal, VALUE, DATE, CLOCK, ZONE, RULE, number, rank}
use Rattle.rules.specs.Calendar.{month_length}
use Rattle.rules.specs.Timestamp.{Zone, no_zone, plus, minus, Written, month_of, day_of, hour_of, minute_of, second_of}
use Rattle.rules.specs.Markup.{Attribute, Nodes, end, node, Element, document}
use Rattle.rules.specs.Forms.{is_flavor, is_flag}
use Rattle.rules.specs.Types.{TS, member_types, type_among}
use Rattle.rules.specs.Judge.{top_faults}
use Rattle.rules.specs.Utf8.{is_utf8}
use Rattle.rules.specs.Check.{is_offset, shift_by, is_too_long}
use Rattle.rules.specs.ListingPromise.{number_in, is_listed}
use Rattle.rules.specs.ComparisonPromise.{Names}
use Rattle.demands.specs.Services.{Services}
use Rattle.demands.specs.Totals.{AreDigits, pointed}

-- A text of "the right form" and what it writes, in the page's words: an offset is "`+` or `-` with hh or hhmm", or none,
pub data SpellsZone : List ℕ → Zone → Type 0 where
  no_offset : SpellsZone [] no_zone
  plus_hours : {h : ℕ} → h < 100 → SpellsZone (bytes "+" ++ digits_of 2 h) (plus h 0)
  minus_hours : {h : ℕ} → h < 100 → SpellsZone (bytes "-" ++ digits_of 2 h) (minus h 0)
  plus_minutes : {h m : ℕ} → h < 100 → m < 100 → SpellsZone (bytes "+" ++ digits_of 2 h ++ digits_of 2 m) (plus h m)
  minus_minutes : {h m : ℕ} → h < 100 → m < 100 → SpellsZone (bytes "-" ++ digits_of 2 h ++ digits_of 2 m) (minus h m)

pub record Spells (text : List ℕ) (w : Written) : Type 0 where
  pub offset : List ℕ
  pub spelled : text ≡ digits_of 4 w.year ++ flat_map (digits_of 2) w.parts ++ pointed w.fraction ++ offset
  -- "YYYY, then MM, DD, hh, mm, ss, each only after the one before"
  pub year_digits : w.year < 10_000
  pub part_digits : every (λ n. ltb n 100) w.parts ≡ true
  pub parts_most : length w.parts ≤ 5
  -- "after ss optionally `.` and 1 to 4 digits"
  pub fraction_digits : AreDigits 0 4 w.fraction
  pub after_seconds : (w.fraction ≡ []) ⊎ (length w.parts ≡ 5)
  -- "after hh or finer optionally" the offset
  pub zone_spelled : SpellsZone offset w.zone
  pub after_hours : (w.zone ≡ no_zone) ⊎ (3 ≤ length w.parts)

-- below the least, or above the most
abbrev pub Outside : (least most : ℕ) → ℕ → Type 0
Outside least most n = (n < least) ⊎ (most < n)

-- "an impossible date (year included)",
pub data ImpossibleDate (w : Written) : Type 0 where
  no_year : Outside 1 9999 w.year → ImpossibleDate w
  no_month : Outside 1 12 (month_of w) → ImpossibleDate w
  no_day : Outside 1 (month_length w.year (month_of w)) (day_of w) → ImpossibleDate w

-- "clock"
pub data ImpossibleClock (w : Written) : Type 0 where
  no_hour : 23 < hour_of w → ImpossibleClock w
  no_minute : 59 < minute_of w → ImpossibleClock w
  no_second : 59 < second_of w → ImpossibleClock w

-- "or offset": minutes over 59, or over 14:00
abbrev pub OverOffset : (hours minutes : ℕ) → Type 0
OverOffset h m = (59 < m) ⊎ (840 < 60 * h + m)

pub data ImpossibleOffset : Zone → Type 0 where
  no_plus : {h m : ℕ} → OverOffset h m → ImpossibleOffset (plus h m)
  no_minus : {h m : ℕ} → OverOffset h m → ImpossibleOffset (minus h m)

-- what a text is refused by as a timestamp
pub data IsWrongBy (text : List ℕ) : Refusal → Type 0 where
  -- "A text of the wrong form stays VALUE."
  wrong_form : ((w : Written) → Spells text w → ⊥) → IsWrongBy text VALUE
  -- "A right form with an impossible date (year included), clock or offset gets 13, 14 or 15, the first that applies."
  wrong_date : {w : Written} → Spells text w → ImpossibleDate w → IsWrongBy text DATE
  wrong_clock : {w : Written} → Spells text w → (ImpossibleDate w → ⊥) → ImpossibleClock w → IsWrongBy text CLOCK
  wrong_zone : {w : Written} → Spells text w → (ImpossibleDate w → ⊥) → (ImpossibleClock w → ⊥) → ImpossibleOffset w.zone → IsWrongBy text ZONE

-- the texts of all attributes of a name: of these elements and of those inside them, and so of a record's element
unfoldable pub texts_in : (name : List ℕ) → Nodes → List (List ℕ)
texts_in name end = []
texts_in name (node n attrs kids rest) = flat_map (λ a. cond (same a.name name) (a.value ∷ []) []) attrs ++ texts_in name kids ++ texts_in name rest

abbrev pub texts_of : (name : String) → Element → List (List ℕ)
texts_of name e = texts_in (bytes name) (node e.name e.attrs e.kids end)

-- these elements, and a record's element, with a good time for the text of each attribute `value`
abbrev pub retimed_attribute : Attribute → Attribute
retimed_attribute a = cond (same a.name (bytes "value")) (record { name = a.name; value = bytes "0001" }) a

unfoldable pub retimed : Nodes → Nodes
retimed end = end
retimed (node n attrs kids rest) = node n (map retimed_attribute attrs) (retimed kids) (retimed rest)

abbrev pub retimed_element : Element → Element
retimed_element e = record { name = e.name; attrs = map retimed_attribute e.attrs; kids = retimed e.kids }

-- A record of times: it is read, and with good times its type would be TS, IVL_TS or a set type, and nothing that stands before VALUE would apply to it. So all
-- in it is allowed, and each attribute `value` is a time.
pub record IsOfTimes (offset : ℤ) (record' : List ℕ) (e : Element) : Type 0 where
  pub offset_allowed : is_offset offset ≡ true
  pub not_too_long : is_too_long record' ≡ false
  pub utf_8 : is_utf8 record' ≡ true
  pub read : document record' ≡ some e
  pub type : is_some (type_among (TS ∷ member_types) (retimed_element e).attrs) ≡ true
  pub shaped : (q : Refusal) → Memᴰ q (top_faults (shift_by offset) (retimed_element e)) → rank VALUE ≤ rank q

-- something written in it is of the wrong form: a null flavor, a flag, or a time
pub data HasWrongForm (e : Element) : Type 0 where
  wrong_flavor : every is_flavor (texts_of "nullFlavor" e) ≡ false → HasWrongForm e
  wrong_flag : every is_flag (texts_of "lowClosed" e ++ texts_of "highClosed" e) ≡ false → HasWrongForm e
  wrong_text : (text : List ℕ) → Memᴰ text (texts_of "value" e) → IsWrongBy text VALUE → HasWrongForm e

-- all in it is of the right form, a time is wrong by r, and none by what stands before r on the ladder
pub record HasWrongTime (e : Element) (r : Refusal) : Type 0 where
  pub formed : HasWrongForm e → ⊥
  pub text : List ℕ
  pub stands : Memᴰ text (texts_of "value" e)
  pub wrong : IsWrongBy text r
  pub first : (t : List ℕ) (q : Refusal) → Memᴰ t (texts_of "value" e) → IsWrongBy t q → rank r ≤ rank q

-- the refusals that the request adds
abbrev pub part_refusals : List Refusal
part_refusals = DATE ∷ CLOCK ∷ ZONE ∷ []

pub record WrongTimesPromise (s : Services) : Type 0 where
  -- a text by itself, at an agreed offset in -840..840 and of at most 16,384 bytes; else OFFSET or TOO LONG comes first (demand 2)
  pub ticks : (offset : ℤ) (text : List ℕ) → is_offset offset ≡ true → length text ≤ 16_384 → (r : Refusal)
      → number_in (s.tick_says offset text) ≡ number r ↔ IsWrongBy text r
  -- what stands before VALUE does not depend on the texts of times: it applies exactly if it does with good ones
  pub before_value : (offset : ℤ) (e : Element) (q : Refusal) → rank q < rank VALUE
      → Memᴰ q (top_faults (shift_by offset) (retimed_element e)) ↔ Memᴰ q (top_faults (shift_by offset) e)
  -- "All services that read timestamps pass them on": checking, of records of times and of no others,
  pub checks : (offset : ℤ) (record' : List ℕ) (r : Refusal) → Memᴰ r part_refusals
      → number_in (s.check_says offset record') ≡ number r ↔ (e : Element) × IsOfTimes offset record' e × HasWrongTime e r
  -- where a wrong form stays VALUE, whatever is impossible beside it,
  pub stays : (offset : ℤ) (record' : List ℕ) (e : Element) → IsOfTimes offset record' e → number_in (s.check_says offset record') ≡ number VALUE ↔ HasWrongForm e
  -- comparing, of either record,
  pub compares_first : (offset : ℤ) (first second : List ℕ) (r : Refusal) → Memᴰ r part_refusals
      → Names 1 r (s.compare_says offset first second) ↔ (number_in (s.check_says offset first) ≡ number r)
  pub compares_second : (offset : ℤ) (first second : List ℕ) (r : Refusal) → Memᴰ r part_refusals
      → Names 2 r (s.compare_says offset first second) ↔ (number_in (s.check_says offset first) ≡ 0) × (number_in (s.check_says offset second) ≡ number r)
  -- and listing, if the type is listed; another is TYPE, which stands before the three. Adding reads no timestamp: money has none, and another type is
  -- TYPE there too, so demand 1 has none of the three for it
  pub lists : (offset : ℤ) (record' list : List ℕ) (r : Refusal) → Memᴰ r part_refusals
      → number_in (s.list_says offset record' list) ≡ number r
      ↔ (number_in (s.check_says offset record') ≡ number r) × ((e : Element) × (document record' ≡ some e) × (is_listed (retimed_element e) ≡ true))
  -- "and the desk table's 19000229 now answers DATE"
  pub example : number_in (s.tick_says (pos 0) (bytes "19000229")) ≡ number DATE
  -- "Refusals: 13 DATE, 14 CLOCK, 15 ZONE, in that order between VALUE and RULE" (demand 1 has the whole order)
  pub numbers : (number DATE ≡ 13) × (number CLOCK ≡ 14) × (number ZONE ≡ 15)
  pub order : (rank DATE ≡ suc (rank VALUE)) × (rank CLOCK ≡ suc (rank DATE)) × (rank ZONE ≡ suc (rank CLOCK)) × (rank RULE ≡ suc (rank ZONE))
  -- "the ladder is read in that order, and no longer by size": demand 2 has that the first on the ladder is given, and RULE, which stands after the
  -- three, has a smaller number than each
  pub not_by_size : (r : Refusal) → Memᴰ r part_refusals → (number RULE < number r) × (rank r < rank RULE)
