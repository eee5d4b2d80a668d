-- The impostors that the rules page names ("What a contract here has to say"), some that print, and some that tell a time's wrong part: none of them meets
-- the demands.
use Prim.Native.Nat.{ℕ, ◌*◌, ◌^◌, ◌≤◌}
use Prim.Native.String.{String}
use mathlib.Core.Path.{◌≡◌, refl, sym, ◌∙◌, ap}
use mathlib.Core.Logic.{inr}
use mathlib.Core.Bool.{Bool, true, false, ◌||◌}
use mathlib.Core.List.{List, [], ◌∷◌, ◌++◌, flat_map}
use native.Mathlib.Omega.{arith}
use lib.Dec.{eqb}
use lib.ListN.{length, get_or, replicate}
use lib.IntN.{ℤ, pos}
use Rattle.rules.specs.Basics.{exists, bytes}
use Rattle.rules.specs.Refusal.{Refusal, DATE, CLOCK, RULE, NO_ROOM, number}
use Rattle.rules.specs.Timestamp.{no_zone, Written}
use Rattle.rules.specs.Markup.{Element}
use Rattle.rules.specs.Comparison.{Unknown}
use Rattle.rules.specs.Sets.{Interval}
use Rattle.rules.specs.LentLists.{is_unbounded, listed}
use Rattle.rules.specs.Services.{eight_bytes, room_of, list_after, answer_number}
use Rattle.rules.specs.ListingPromise.{number_in, IsSetOfTimes}
use Rattle.rules.specs.ComparisonPromise.{answer_in}
use Rattle.rules.proofs.Opened.{opened}
use Rattle.rules.proofs.Tests.{clash, eqb_refl}
use Rattle.rules.proofs.ListingPromise.{small}
use Rattle.demands.specs.Services.{Services, result_in, accepts, refuses}
use Rattle.demands.specs.WrongTimes.{Spells, no_day, ImpossibleClock, no_hour, wrong_date}
use Rattle.demands.specs.LastDay.{pass}
use Rattle.demands.specs.Demands.{Demands}
use Rattle.demands.proofs.Spelling.{spells}
use Rattle.demands.proofs.Determined.{demands_determine}

abbrev identifier : String
identifier = "<a xsi:type=\"II\" root=\"1.2\"/>"

-- the union of the terms that a text writes; a term that ends before 2024, and one from 2025 on
abbrev union_of : List ℕ → List ℕ
union_of terms = bytes "<a xsi:type=\"QSU_TS\">" ++ terms ++ bytes "</a>"

abbrev before_2024 : List ℕ
before_2024 = bytes "<term xsi:type=\"IVL_TS\" highClosed=\"false\"><low nullFlavor=\"NINF\"/><high value=\"2024\"/></term>"

abbrev from_2025 : List ℕ
from_2025 = bytes "<term xsi:type=\"IVL_TS\" lowClosed=\"true\"><low value=\"2025\"/><high nullFlavor=\"PINF\"/></term>"

-- lists of one stretch: all before tick 3, and all after it
abbrev before_3 : List ℕ
before_3 = flat_map eight_bytes (pos 0 ∷ pos 0 ∷ pos 1 ∷ pos 3 ∷ [])

abbrev after_3 : List ℕ
after_3 = flat_map eight_bytes (pos 1 ∷ pos 3 ∷ pos 0 ∷ pos 0 ∷ [])

abbrev has_unbounded_end : Interval → Bool
has_unbounded_end v = is_unbounded v.low || is_unbounded v.high

-- a day that no calendar has at an hour that no clock has, and records of that day: beside a null flavor, and as a bound
abbrev no_day_no_hour : Written
no_day_no_hour = record { year = 1900; parts = 2 ∷ 29 ∷ 24 ∷ []; fraction = []; zone = no_zone }

abbrev no_day-null : List ℕ
no_day-null = bytes "<a xsi:type=\"TS\" nullFlavor=\"NI\" value=\"19000229\"/>"

abbrev from_no_day : List ℕ
from_no_day = bytes "<a xsi:type=\"IVL_TS\" lowClosed=\"true\"><low value=\"19000229\"/></a>"

module _ (s : Services) (p : Demands s) where
  -- what such services say of them
  accepts_identifier : s.check_says (pos 0) (bytes identifier) ≡ 0
  unfolding opened
  accepts_identifier = (demands_determine s p).same_check (pos 0) (bytes identifier)

  identifier_itself : answer_in (s.compare_says (pos 0) (bytes identifier) (bytes identifier)) ≡ 1
  unfolding opened
  identifier_itself = ap answer_in ((demands_determine s p).same_compare (pos 0) (bytes identifier) (bytes identifier))

  cuts_letter : result_in (s.cut_says (bytes "a") 1) ≡ 1
  unfolding opened
  cuts_letter = ap result_in ((demands_determine s p).same_cut (bytes "a") 1)

  accepts-one : s.check_says (pos 0) (union_of before_2024) ≡ 0
  unfolding opened
  accepts-one = (demands_determine s p).same_check (pos 0) (union_of before_2024)

  accepts-two : s.check_says (pos 0) (union_of (before_2024 ++ from_2025)) ≡ 0
  unfolding opened
  accepts-two = (demands_determine s p).same_check (pos 0) (union_of (before_2024 ++ from_2025))

  lists-one : result_in (s.list_says (pos 0) (union_of before_2024) (replicate 64 7)) ≡ 1
  unfolding opened
  lists-one = ap result_in ((demands_determine s p).same_list (pos 0) (union_of before_2024) (replicate 64 7))

  lists-two : result_in (s.list_says (pos 0) (union_of (before_2024 ++ from_2025)) (replicate 64 7)) ≡ 2
  unfolding opened
  lists-two = ap result_in ((demands_determine s p).same_list (pos 0) (union_of (before_2024 ++ from_2025)) (replicate 64 7))

  prints_one : s.print_says before_3 (replicate 258 7) ≡ 145 * 2 ^ 8
  unfolding opened
  prints_one = (demands_determine s p).same_print before_3 (replicate 258 7)

  prints_two : s.print_says (before_3 ++ after_3) (replicate 258 7) ≡ 258 * 2 ^ 8
  unfolding opened
  prints_two = (demands_determine s p).same_print (before_3 ++ after_3) (replicate 258 7)

  -- the lists of two passes differ where one of their bytes does
  abbrev room : List ℕ
  room = replicate 32 7

  differ : (a b : List ℕ) (i : ℕ) → eqb (get_or (list_after (pos 0) a room) i 0) (get_or (list_after (pos 0) b room) i 0) ≡ false
      → s.list_leaves (pos 0) a room ≡ s.list_leaves (pos 0) b room → ⊥
  differ a b i n e =
      let z : list_after (pos 0) a room ≡ list_after (pos 0) b room = sym ((demands_determine s p).same_list_left (pos 0) a room) ∙ e ∙ (demands_determine s p).same_list_left (pos 0) b room in
      clash (cc (n, eqb_refl (get_or (list_after (pos 0) a room) i 0), z))

  -- one that refuses all
  pub refuses-all : ((offset : ℤ) (record' : List ℕ) → (r : Refusal) × (number_in (s.check_says offset record') ≡ number r)) → ⊥
  refuses-all h = let (r, e) = h (pos 0) (bytes identifier) in omega (arith, small r, e, accepts_identifier)

  -- one that always lists nothing
  pub lists-nothing : ((offset : ℤ) (record' list : List ℕ) → result_in (s.list_says offset record' list) ≡ 0) → ⊥
  lists-nothing h = omega (arith, lists-one, h (pos 0) (union_of before_2024) (replicate 64 7))

  -- one that always says unknown
  pub says-unknown : ((offset : ℤ) (first second : List ℕ) → answer_in (s.compare_says offset first second) ≡ answer_number Unknown) → ⊥
  says-unknown h = omega (arith, identifier_itself, h (pos 0) (bytes identifier) (bytes identifier))

  -- one that always cuts to length 0
  pub cuts_to-nothing : ((text : List ℕ) (room : ℕ) → result_in (s.cut_says text room) ≡ 0) → ⊥
  cuts_to-nothing h = omega (arith, cuts_letter, h (bytes "a") 1)

  -- one that does nothing and writes no numbers
  pub writes_nothing : ((offset : ℤ) (record' list : List ℕ) → s.list_leaves offset record' list ≡ list) → ⊥
  unfolding opened
  writes_nothing h =
      let list : List ℕ = replicate 64 7 in
      let z = sym (h (pos 0) (union_of before_2024) list) ∙ (demands_determine s p).same_list_left (pos 0) (union_of before_2024) list in
      clash (cc)

  -- one that reads the first term and skips the rest: of a union with further terms it says what it says of the union without them
  pub skips_terms : ((offset : ℤ) (first rest list : List ℕ) → s.check_says offset (union_of first) ≡ 0 → s.check_says offset (union_of (first ++ rest)) ≡ 0
      → s.list_says offset (union_of (first ++ rest)) list ≡ s.list_says offset (union_of first) list) → ⊥
  skips_terms h = let e = h (pos 0) before_2024 from_2025 (replicate 64 7) accepts-one accepts-two in omega (arith, lists-one, lists-two, ap result_in e)

  -- one with an invented stretch count
  pub invents_count : (offset : ℤ) (record' list : List ℕ) (e : Element) (h : IsSetOfTimes offset record' e)
      → let stretches = ((p.three.listing_promise offset record' list).sets e h).stretches in
      length stretches ≤ room_of list → (result_in (s.list_says offset record' list) ≡ length stretches → ⊥) → ⊥
  invents_count offset record' list e h l n = n (((p.three.listing_promise offset record' list).sets e h).room l).count

  -- one that always prints nothing
  pub prints_nothing : ((list record' : List ℕ) → result_in (s.print_says list record') ≡ 0) → ⊥
  prints_nothing h = let (list, record', e) = p.print.reached in omega (arith, e, h list record')

  -- one that writes no record, whatever it says
  pub writes_no_record : ((list record' : List ℕ) → s.print_leaves list record' ≡ record') → ⊥
  unfolding opened
  writes_no_record h =
      let z : false ≡ true = ap (exists (eqb 60)) (sym (h before_3 (replicate 258 7)) ∙ (demands_determine s p).same_print_left before_3 (replicate 258 7)) in
      clash (cc)

  -- one that refuses every list with an unbounded end
  pub refuses-unbounded : ((list record' : List ℕ) → exists has_unbounded_end (listed list) ≡ true → (r : Refusal) × (number_in (s.print_says list record') ≡ number r)) → ⊥
  unfolding opened
  refuses-unbounded h = let (r, e) = h before_3 (replicate 258 7) refl in omega (arith, small r, e, prints_one)

  -- one that writes and then says NO ROOM
  pub writes_and-refuses : (list record' : List ℕ) → number_in (s.print_says list record') ≡ number NO_ROOM → (s.print_leaves list record' ≡ record' → ⊥) → ⊥
  writes_and-refuses list record' e n = elim (p.one.print_answers list record') [ accepts f h ↦ clash (omega (arith, e, f)) | refuses r m f h kept ↦ n kept ]

  -- one that prints the first stretch alone: of a list with further stretches it says what it says of the list without them
  pub prints_first_alone : ((first rest record' : List ℕ) → length first ≡ 32 → number_in (s.print_says first record') ≡ 0 → number_in (s.print_says (first ++ rest) record') ≡ 0
      → s.print_says (first ++ rest) record' ≡ s.print_says first record') → ⊥
  unfolding opened
  prints_first_alone h =
      let e = h before_3 after_3 (replicate 258 7) refl (ap number_in prints_one) (ap number_in prints_two) in
      omega (arith, prints_one, prints_two, e)

  -- one that never says DATE, as none did before request A5
  pub never_date : ((offset : ℤ) (text : List ℕ) → number_in (s.tick_says offset text) ≡ number DATE → ⊥) → ⊥
  never_date h = h (pos 0) (bytes "19000229") p.wrong_times.example

  -- one that gives CLOCK for every impossible clock, where the date is impossible too
  pub clock_for_date : ((offset : ℤ) (text : List ℕ) (w : Written) → Spells text w → ImpossibleClock w → number_in (s.tick_says offset text) ≡ number CLOCK) → ⊥
  unfolding opened
  clock_for_date h =
      let spelled = (spells (bytes "1900022924") no_day_no_hour).0 refl in
      let date = (p.wrong_times.ticks (pos 0) (bytes "1900022924") refl (omega arith) DATE).1 (wrong_date spelled (no_day (inr (omega arith)))) in
      omega (arith, date, h (pos 0) (bytes "1900022924") no_day_no_hour spelled (no_hour (omega arith)))

  -- one that gives RULE for every value beside a null flavor, where the value is impossible
  pub rule_before-date : number_in (s.check_says (pos 0) no_day-null) ≡ number RULE → ⊥
  unfolding opened
  rule_before-date e = omega (arith, e, ap number_in ((demands_determine s p).same_check (pos 0) no_day-null))

  -- one that says what is wrong with a time only where that stands alone, and not where it is listed
  pub passes_none-on : ((offset : ℤ) (record' list : List ℕ) → number_in (s.list_says offset record' list) ≡ number DATE → ⊥) → ⊥
  unfolding opened
  passes_none-on h = h (pos 0) from_no_day [] (ap number_in ((demands_determine s p).same_list (pos 0) from_no_day []))

  -- one that pushes an open high too: what it lists is as if a coarse high were closed
  pub pushes_open_high : ((list : List ℕ) → s.list_leaves (pos 0) (pass "true" "20240401" "false" "20240501") list ≡ s.list_leaves (pos 0) (pass "true" "20240401" "true" "20240501") list)
      → ⊥
  unfolding opened
  pushes_open_high h = differ (pass "true" "20240401" "false" "20240501") (pass "true" "20240401" "true" "20240501") 25 refl (h room)

  -- one that pushes a closed low too: what it lists is as if a coarse low were open
  pub pushes-closed-low : ((list : List ℕ) → s.list_leaves (pos 0) (pass "true" "20240401" "false" "20240501") list ≡ s.list_leaves (pos 0) (pass "false" "20240401" "false" "20240501") list)
      → ⊥
  unfolding opened
  pushes-closed-low h = differ (pass "true" "20240401" "false" "20240501") (pass "false" "20240401" "false" "20240501") 9 refl (h room)

  -- one that takes the unit of the other bound: a day beside an hour is an hour
  pub takes_other-unit : ((list : List ℕ) → s.list_leaves (pos 0) (pass "true" "2024040100" "true" "20240430") list ≡ s.list_leaves (pos 0) (pass "true" "2024040100" "true" "2024043000") list)
      → ⊥
  unfolding opened
  takes_other-unit h = differ (pass "true" "2024040100" "true" "20240430") (pass "true" "2024040100" "true" "2024043000") 25 refl (h room)

  -- one that pushes a bound with seconds: it ends at the next second, and leaves that out
  pub pushes_seconds : ((list : List ℕ) → s.list_leaves (pos 0) (pass "true" "2024" "true" "20240430000000") list ≡ s.list_leaves (pos 0) (pass "true" "2024" "false" "20240430000001") list)
      → ⊥
  unfolding opened
  pushes_seconds h = differ (pass "true" "2024" "true" "20240430000000") (pass "true" "2024" "false" "20240430000001") 16 refl (h room)

  -- one that gives RULE by the high's tick alone
  pub rule_by_high_alone : number_in (s.check_says (pos 0) (pass "true" "2024043012" "true" "20240430")) ≡ number RULE → ⊥
  unfolding opened
  rule_by_high_alone e = omega (arith, e, ap number_in ((demands_determine s p).same_check (pos 0) (pass "true" "2024043012" "true" "20240430")))
