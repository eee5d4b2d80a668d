-- The services meet the user's demands.
use Prim.Native.Nat.{ℕ, ◌≤◌}
use mathlib.Core.Path.{◌≡◌, refl, sym, subst}
use mathlib.Core.Logic.{inl, inr, ◌↔◌}
use mathlib.Core.Bool.{Bool, true, not}
use mathlib.Core.List.{List, [], ◌∷◌, ◌++◌, append-eq-nil_iff}
use mathlib.Core.Option.{Option, none, some}
use native.Mathlib.Decide.{dec_le}
use native.Mathlib.Omega.{arith}
use lib.ListN.{length}
use lib.IntN.{ℤ}
use Rattle.rules.specs.Basics.{exists}
use Rattle.rules.specs.Refusal.{Refusal, OFFSET, TOO_LONG, NOT_UTF_8, TYPE, number, first_of, Outcome, answered, refused, faults_of, ◌when◌}
use Rattle.rules.specs.Utf8.{is_utf8, cut_length}
use Rattle.rules.specs.Markup.{Element}
use Rattle.rules.specs.Timestamp.{Moment, read_timestamp, tick_of}
use Rattle.rules.specs.Check.{is_offset, shift_by, is_too_long, record_faults, check}
use Rattle.rules.specs.Comparison.{Comparer, comparer_for, or_unknown}
use Rattle.rules.specs.Services.{packed, room_of, check_answer, compare_checked, compared_number, compare_answer, timing, tick_answer, tick_after, cutting, cut_answer}
use Rattle.rules.specs.ListingPromise.{number_in, Refuses, ListingPromise}
use Rattle.rules.proofs.Tests.{clash}
use Rattle.rules.proofs.Precedence.{number_injective, first-is, no_fault, unless_answered, unless_refused, check-refused, check-answered}
use Rattle.rules.proofs.CheckRefusals.{Pass, pass-append, pass_when, first_passes, read_passes, check_refusals}
use Rattle.rules.proofs.Ticks.{precision-range}
use Rattle.rules.proofs.Utf8.{cut-whole, cut_fits, cut-longest}
use Rattle.rules.proofs.ListingCases.{faulty_early, faulty, other_type, unclear, many, a_set, case}
use Rattle.rules.proofs.ListingPromise.{count_bits, listing_promise}
use Rattle.rules.proofs.LentLists.{signed_eight}
use Rattle.rules.proofs.ComparedRecords.{says as says-answer, comparison_of}
use Rattle.rules.proofs.ComparisonPromise.{names-first, names-second, comparison_promise}
use Rattle.demands.specs.Services.{services, result_in, is_among, Answers, accepts, refuses, Compares, says, names}
use Rattle.demands.specs.Demands.{time_refusals, record_refusals, list_refusals, IsFirst, time_faults, cut_faults, IsCut, Demand2, Demand3, Demands}
use Rattle.demands.proofs.Answers.{iff_trans, record_among, packed-refused, packed-accepted, packed-answers}
use Rattle.demands.proofs.Printing.{print_answers, print_promise}
use Rattle.demands.proofs.Years.{years_kept}
use Rattle.demands.proofs.WrongTimes.{wrong-times_kept}
use Rattle.demands.proofs.LastDay.{last_day_kept}
use Rattle.demands.proofs.DesksAnswers.{start_answers, add_answers, report_answers}
use Rattle.demands.proofs.Desks.{totals_kept, desks_kept}

-- checking
module _ (offset : ℤ) (input : List ℕ) where
  among_checked : (r : Refusal) → check offset input ≡ refused r → is_among record_refusals r ≡ true
  among_checked r e = (record_among r (check_refusals offset input e)).0

  check_answers : Answers record_refusals (λ n. n ≡ 0) (Unit {0}) (check_answer offset input)
  check_answers = packed-answers (λ e. 0) (check offset input) (λ e h. refl) (λ r h. (among_checked r h, tt))

  check-accepted : number_in (check_answer offset input) ≡ 0 ↔ record_faults offset input ≡ []
  check-accepted = (
    λ e. let (a, h) = packed-accepted (λ e. 0) (check offset input) e in ((check-answered offset input a).0 h).1,
    λ f. go (check offset input) refl ((no_fault (record_faults offset input)).1 f),
  )
    where
      go : (o : Outcome Element) → check offset input ≡ o → first_of (record_faults offset input) ≡ none → number_in (packed (λ e. 0) o) ≡ 0
      go (answered a) e f = refl
      go (refused r) e f = let h = (check-refused offset input r).0 e in clash (cc)

  check-first : (r : Refusal) → number_in (check_answer offset input) ≡ number r ↔ IsFirst r (record_faults offset input)
  check-first r = iff_trans (packed-refused (λ e. 0) (check offset input) r) (iff_trans (check-refused offset input r) (first-is (record_faults offset input) r))

-- comparing
module _ (offset : ℤ) (first second : List ℕ) where
  compare_answers : Compares record_refusals (compare_answer offset first second)
  unfolding exists
  compare_answers = rw (comparison_of offset first second refl refl) (go (check offset first) (check offset second) refl refl)
    where
      both-accepted : (a b : Element) (o : Option Comparer) → comparer_for a b ≡ o
          → Compares record_refusals (compared_number (compare_checked (shift_by offset) (answered a) (answered b)))
      both-accepted a b none e = rw e (names 2 TYPE (inr refl) refl (names-second TYPE))
      both-accepted a b (some c) e = rw e (says (or_unknown c (shift_by offset) a b) (says-answer _))

      go : (o p : Outcome Element) → check offset first ≡ o → check offset second ≡ p → Compares record_refusals (compared_number (compare_checked (shift_by offset) o p))
      go (refused r) p e f = names 1 r (inl refl) (among_checked offset first r e) (names-first r)
      go (answered a) (refused r) e f = names 2 r (inr refl) (among_checked offset second r f) (names-second r)
      go (answered a) (answered b) e f = both-accepted a b _ refl

-- listing
module _ (offset : ℤ) (input list : List ℕ) {answer : ℕ} {after : List ℕ} (p : ListingPromise offset input answer list after) where
  abbrev ListAnswers : Type 0
  ListAnswers = Answers list_refusals (λ n. n ≤ 32) (after ≡ list) answer

  by_refusal : {r : Refusal} → is_among list_refusals r ≡ true → Refuses offset input answer list after r → ListAnswers
  by_refusal {r} may h = refuses r may h.number_given h.no_count h.unchanged

  list_answers : ListAnswers
  unfolding exists
  list_answers = elim (case offset input) [
    | faulty r q c f ↦ by_refusal (record_among q (faulty_early offset (room_of list) input r c f)).1 (p.faulty r q c f)
    | other_type e c l ↦ by_refusal refl (p.other_type e c l)
    | unclear e c l u ↦ by_refusal refl (p.unknown_bound.1 (e, c, l, u))
    | many e c l u m ↦ by_refusal refl (p.too_many.1 (e, c, l, u, m))
    | a_set e h ↦
        let s = p.sets e h in
        elim (dec_le (length s.stretches) (room_of list)) [
          | yes l ↦ accepts (s.room l).number_given (omega (arith, (s.room l).count, s.at_most, h.few))
          | no l ↦ by_refusal refl (s.no_room.1 (omega arith))
        ]
  ]

-- timestamps
module _ (offset : ℤ) (text : List ℕ) where
  abbrev among : Refusal → Bool
  among = is_among time_refusals

  time_passes : Pass among (time_faults offset text)
  unfolding exists
  time_passes = pass-append among (read_passes among refl refl refl refl (shift_by offset) text)
      (pass-append among (pass_when among OFFSET (not (is_offset offset)) refl) (pass_when among TOO_LONG (is_too_long text) refl))

  timing-refused : (r : Refusal) → timing offset text ≡ refused r ↔ first_of (time_faults offset text) ≡ some r
  unfolding timing
  timing-refused r = unless_refused (read_timestamp (shift_by offset) text) (OFFSET when not (is_offset offset) ++ TOO_LONG when is_too_long text) r

  timing-answered : (m : Moment) → timing offset text ≡ answered m
      ↔ (read_timestamp (shift_by offset) text ≡ answered m) × ((OFFSET when not (is_offset offset) ++ TOO_LONG when is_too_long text) ≡ [])
  unfolding timing
  timing-answered m = unless_answered (read_timestamp (shift_by offset) text) (OFFSET when not (is_offset offset) ++ TOO_LONG when is_too_long text) m

  tick_answers : (tick : ℤ) → Answers time_refusals (λ n. (4 ≤ n) × (n ≤ 18)) (tick_after offset text tick ≡ tick) (tick_answer offset text)
  tick_answers tick = packed-answers (λ m. m.precision) (timing offset text)
      (λ m e. precision-range (shift_by offset) text m ((timing-answered m).0 e).0)
      (λ r e. (first_passes among time_passes ((timing-refused r).0 e), rw e refl))

  time : (tick : ℤ) (m : Moment) → read_timestamp (shift_by offset) text ≡ answered m → time_faults offset text ≡ []
      → (number_in (tick_answer offset text) ≡ 0) × (result_in (tick_answer offset text) ≡ m.precision) × (tick_after offset text tick ≡ tick_of m)
  time tick m e f =
      let h : timing offset text ≡ answered m = (timing-answered m).1 (e, ((append-eq-nil_iff {p = faults_of (read_timestamp (shift_by offset) text)}).0 f).1) in
      (rw h (count_bits m.precision).0, rw h (count_bits m.precision).1, rw h refl)

  time-first : (r : Refusal) → number_in (tick_answer offset text) ≡ number r ↔ IsFirst r (time_faults offset text)
  time-first r = iff_trans (packed-refused (λ m. m.precision) (timing offset text) r) (iff_trans (timing-refused r) (first-is (time_faults offset text) r))

-- cutting
module _ (text : List ℕ) (room : ℕ) where
  abbrev may : Refusal → Bool
  may = is_among (TOO_LONG ∷ NOT_UTF_8 ∷ [])

  cutting-refused : (r : Refusal) → cutting text room ≡ refused r ↔ first_of (cut_faults text) ≡ some r
  unfolding cutting
  cutting-refused r = unless_refused (answered (cut_length room text)) (cut_faults text) r

  cutting-answered : (n : ℕ) → cutting text room ≡ answered n ↔ (answered (cut_length room text) ≡ answered n) × (cut_faults text ≡ [])
  unfolding cutting
  cutting-answered n = unless_answered (answered (cut_length room text)) (cut_faults text) n

  cut_answers : Answers (TOO_LONG ∷ NOT_UTF_8 ∷ []) (λ n. n ≤ length text) (Unit {0}) (cut_answer text room)
  unfolding exists
  cut_answers = packed-answers (λ n. n) (cutting text room)
      (λ n e. let z : cut_length room text ≡ n = cc ((cutting-answered n).0 e).0 in rw (← z) (cut_fits room text).1)
      (λ r e. (first_passes may (pass-append may (pass_when may TOO_LONG (is_too_long text) refl) (pass_when may NOT_UTF_8 (not (is_utf8 text)) refl)) ((cutting-refused r).0 e), tt))

  is_cut : IsCut text room (cut_length room text)
  is_cut = record { within = (cut_fits room text).1; fits = (cut_fits room text).0; whole = cut-whole room text; most = λ m l f w. cut-longest room text m f l w }

  cut : cut_faults text ≡ [] → (number_in (cut_answer text room) ≡ 0) × IsCut text room (result_in (cut_answer text room))
  cut f =
      let n = cut_length room text in
      let h : cutting text room ≡ answered n = (cutting-answered n).1 (refl, f) in
      (rw h (count_bits n).0, rw h (subst (IsCut text room) (sym (count_bits n).1) is_cut))

  cut-first : (r : Refusal) → number_in (cut_answer text room) ≡ number r ↔ IsFirst r (cut_faults text)
  cut-first r = iff_trans (packed-refused (λ n. n) (cutting text room) r) (iff_trans (cutting-refused r) (first-is (cut_faults text) r))

met_2 : Demand2 services
met_2 = record {
  accepted = check-accepted;
  refused = check-first;
  time = time;
  time_refused = time-first;
  comparison = λ offset first second a b c e f g. rw (comparison_of offset first second e f, g) (says-answer _);
  comparison_promise = comparison_promise;
  cut = cut;
  cut_refused = cut-first;
}

met_3 : Demand3 services
met_3 = record { read_back = signed_eight; listing_promise = listing_promise }

pub demands_met : Demands services
demands_met = record {
  one = record {
    order = refl;
    numbers = refl;
    one_number = number_injective;
    check_answers = check_answers;
    compare_answers = compare_answers;
    list_answers = λ offset input list. list_answers offset input list (listing_promise offset input list);
    tick_answers = tick_answers;
    cut_answers = cut_answers;
    print_answers = print_answers;
    open_answers = λ numbers. refl;
    start_answers = start_answers;
    add_answers = add_answers;
    report_answers = report_answers;
  };
  two = met_2;
  three = met_3;
  print = print_promise;
  years = years_kept services met_2;
  last_day = last_day_kept services met_2 met_3;
  wrong_times = wrong-times_kept services met_2 met_3;
  totals = totals_kept;
  desks = desks_kept;
}
