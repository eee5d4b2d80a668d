-- The services keep what request A1 asks of printing.
use Prim.Native.Nat.{ℕ, zero, suc, ◌*◌, ◌/◌, ◌%◌, ◌^◌, ◌≤◌, ◌<◌}
use mathlib.Core.Path.{◌≡◌, refl, ◌∙◌, subst}
use mathlib.Core.Logic.{◌⊎◌, inl, inr, ◌↔◌}
use mathlib.Core.Bool.{true, false}
use mathlib.Core.List.{List, [], ◌∷◌, ◌++◌, flat_map}
use native.Mathlib.Omega.{arith}
use borrow.Author.Tests.{ltb-true, lt-ltb}
use lib.ListN.{length, take, drop, replicate, length-append}
use lib.Seq.{take_at, drop_at}
use lib.IntN.{ℤ, pos, negsuc}
use Rattle.rules.specs.Basics.{exists, every, bytes}
use Rattle.rules.specs.Refusal.{Refusal, NOT_WRITABLE, NO_ROOM, number, Outcome, answered, refused}
use Rattle.rules.specs.Check.{is_offset}
use Rattle.rules.specs.Sets.{Bound, unbounded, open_at, closed_at, Interval, ◌upto◌}
use Rattle.rules.specs.LentLists.{is_improper_list, listed}
use Rattle.rules.specs.Listing.{list_numbers}
use Rattle.rules.specs.Services.{eight_bytes, room_of, listing, list_answer, list_after, tick_answer, tick_after}
use Rattle.rules.specs.Dates.{years_end, date_text, clock_text, timestamp_text}
use Rattle.rules.specs.Calendar.{day}
use Rattle.rules.proofs.Dates.{years-end}
use Rattle.rules.specs.Printing.{term_text, record_text, is_writable_tick, is_writable_bound, is_writable_stretch, is_unwritable, printing, print_answer, print_after}
use Rattle.rules.specs.ListingPromise.{number_in}
use Rattle.rules.proofs.Opened.{opened}
use Rattle.rules.proofs.Tests.{clash, both_true}
use Rattle.rules.proofs.Pieces.{record_short, date-length, clock-length}
use Rattle.rules.proofs.TickOrder.{tick-from-start}
use Rattle.rules.proofs.Printing.{record_accepted}
use Rattle.rules.proofs.PrintingCases.{is_printable, list-bytes, listed-length, listed_back, timing_of_tick, listing-proper, written-bytes, unwritable, full, fitting, printing_case, unwritable_is, printing_unwritable, printing_no_room, printing-answered}
use Rattle.rules.proofs.ListingPromise.{low_bits, count_bits, list_length, overwrite-begins, overwrite-rest}
use Rattle.demands.specs.Services.{services, result_in, is_among, Answers, accepts, refuses}
use Rattle.demands.specs.Printing.{InYears, empty_stay, Prints, ReadsBack, IsProperList, PrintPromise}
use Rattle.demands.proofs.Answers.{packed-refused, packed-accepted}

-- answers of printing, case by case
module _ (list record' : List ℕ) where
  abbrev outcome : Outcome (List ℕ)
  outcome = printing list (length record')

  abbrev text : List ℕ
  text = record_text (listed list)

  abbrev PrintAnswers : Type 0
  PrintAnswers = Answers (NOT_WRITABLE ∷ NO_ROOM ∷ []) (λ n. n ≤ 4_735) (print_after list record' ≡ record') (print_answer list record')

  by_refusal : (r : Refusal) → is_among (NOT_WRITABLE ∷ NO_ROOM ∷ []) r ≡ true → outcome ≡ refused r → PrintAnswers
  by_refusal r may h = refuses r may (rw h (low_bits r).0) (rw h (low_bits r).1) (rw h refl)

  prints : is_unwritable list ≡ false → length text ≤ length record' → Prints text (print_answer list record') record' (print_after list record')
  prints w l =
      let h = printing-answered list (length record') w l in
      record {
        accepted = rw h (count_bits (length text)).0;
        length_given = rw h (count_bits (length text)).1;
        begins = rw h (overwrite-begins record' text (length text) refl l);
        unchanged = rw h (overwrite-rest record' text (length text) refl l);
      }

  pub print_answers : PrintAnswers
  unfolding exists
  print_answers = elim (printing_case list (length record')) [
    | unwritable h ↦ by_refusal NOT_WRITABLE refl (printing_unwritable list (length record') h)
    | full w l ↦ by_refusal NO_ROOM refl (printing_no_room list (length record') w l)
    | fitting w l ↦ let p = prints w l in accepts p.accepted (rw p.length_given (let q = is_printable list w in record_short (listed list) q.few q.writable))
  ]

  not_writable : number_in (print_answer list record') ≡ number NOT_WRITABLE ↔ (is_improper_list list ≡ true) ⊎ (every is_writable_stretch (listed list) ≡ false)
  not_writable = (
    λ e. let r = (packed-refused length outcome NOT_WRITABLE).0 e in elim (printing_case list (length record')) [
      | unwritable h ↦ (unwritable_is list).0 h
      | full w l ↦ clash (cc (printing_no_room list (length record') w l))
      | fitting w l ↦ clash (cc (printing-answered list (length record') w l))
    ],
    λ h. (packed-refused length outcome NOT_WRITABLE).1 (printing_unwritable list (length record') ((unwritable_is list).1 h)),
  )

  no_room : number_in (print_answer list record') ≡ number NO_ROOM ↔ (is_unwritable list ≡ false) × (length record' < length text)
  no_room = (
    λ e. let r = (packed-refused length outcome NO_ROOM).0 e in elim (printing_case list (length record')) [
      | unwritable h ↦ clash (cc (printing_unwritable list (length record') h))
      | full w l ↦ (w, l)
      | fitting w l ↦ clash (cc (printing-answered list (length record') w l))
    ],
    λ (w, l). (packed-refused length outcome NO_ROOM).1 (printing_no_room list (length record') w l),
  )

  -- what was printed could be written, and fits
  was_printed : number_in (print_answer list record') ≡ 0 → (is_unwritable list ≡ false) × (length text ≤ length record')
  was_printed e = let (t, a) = packed-accepted length outcome e in elim (printing_case list (length record')) [
    | unwritable h ↦ clash (cc (printing_unwritable list (length record') h))
    | full w l ↦ clash (cc (printing_no_room list (length record') w l))
    | fitting w l ↦ (w, l)
  ]

-- the record of a list, read back
module _ (list : List ℕ) (w : is_unwritable list ≡ false) (offset : ℤ) (o : is_offset offset ≡ true) (lent : List ℕ) (l : length list ≤ length lent) where
  reads_back : ReadsBack services offset (record_text (listed list)) list lent
  reads_back =
      let h = listed_back list w offset lent o l in
      record {
        checked = rw (record_accepted (listed list) (is_printable list w) offset o) refl;
        accepted = rw h (count_bits (length (listed list))).0;
        as_many = rw h (omega (arith, count_bits (length (listed list)), listed-length list w));
        begins = λ b. rw (h, list-bytes list w b) (overwrite-begins lent list (length list) refl l);
        unchanged = rw h (overwrite-rest lent (flat_map eight_bytes (list_numbers (listed list))) (length list) (list_length (listed list) ∙ listed-length list w) l);
      }

read_back : (list record' : List ℕ) → number_in (print_answer list record') ≡ 0 → (offset : ℤ) → is_offset offset ≡ true → (lent : List ℕ)
    → length list ≤ length lent → ReadsBack services offset (take (result_in (print_answer list record')) (print_after list record')) list lent
read_back list record' e offset o lent l =
    let (w, m) = was_printed list record' e in
    let p = prints list record' w m in
    rw (p.length_given, p.begins) (reads_back list w offset o lent l)

-- what listing wrote
module _ (offset : ℤ) (record' list : List ℕ) where
  wrote : (ss : List Interval) → listing offset (room_of list) record' ≡ answered ss
      → IsProperList services (take (32 * result_in (list_answer offset record' list)) (list_after offset record' list))
  wrote ss h =
      let n = flat_map eight_bytes (list_numbers ss) in
      let p = (listing-proper offset (room_of list) record' ss h).0 in
      rw (h, (count_bits (length ss)).1, take_at n (drop (length n) list) (32 * length ss) (list_length ss)) (record {
        proper = p;
        are_bytes = written-bytes (list_numbers ss);
        outside = λ lent. (λ e. elim ((not_writable n lent).0 e) [ inl f ↦ clash (cc) | inr f ↦ f ], λ f. (not_writable n lent).1 (inr f));
      })

  listed_proper : number_in (list_answer offset record' list) ≡ 0 → IsProperList services (take (32 * result_in (list_answer offset record' list)) (list_after offset record' list))
  listed_proper e = let (ss, h) = packed-accepted length (listing offset (room_of list) record') e in wrote ss h

-- stretches from a tick on, each between it and the next, both bounds open
between : (count tick : ℕ) → List Interval
between zero t = []
between (suc n) t = open_at (pos t) upto open_at (pos (suc t)) ∷ between n (suc t)

abbrev longest : List ℕ
longest = flat_map eight_bytes (list_numbers (between 32 0))

-- 32 of them fill a record of 4,735 bytes
reached : result_in (print_answer longest (replicate 4_735 0)) ≡ 4_735
unfolding opened between
reached = refl

empty : (is_unwritable [] ≡ false) × (record_text (listed []) ≡ empty_stay)
unfolding opened
empty = (refl, refl)

no_stretch : (record' : List ℕ) → length empty_stay ≤ length record' → Prints empty_stay (print_answer [] record') record' (print_after [] record')
no_stretch record' l =
    subst (λ text. Prints text (print_answer [] record') record' (print_after [] record')) empty.1 (prints [] record' empty.0 (rw empty.1 l))

-- a tick as a full timestamp
full_timestamp : (offset tick before : ℤ) → is_offset offset ≡ true → is_writable_tick tick ≡ true
    → (tick_answer offset (timestamp_text tick) ≡ 18 * 2 ^ 8) × (tick_after offset (timestamp_text tick) before ≡ tick)
    × (drop 19 (timestamp_text tick) ≡ bytes "+0000")
full_timestamp offset (pos t) before o h =
    let e = timing_of_tick offset t o (ltb-true t years_end h) in
    (rw e refl, rw e (tick-from-start t), ends (date_text (t / day)) (clock_text (t % day)) (date-length _) (clock-length _))
  where
    ends : (d c : List ℕ) → length d ≡ 8 → length c ≡ 11 → drop 19 (d ++ c ++ bytes "+0000") ≡ bytes "+0000"
    ends d c e f = drop_at (d ++ c) (bytes "+0000") 19 (length-append d c ∙ omega (arith, e, f))
full_timestamp offset (negsuc t) before o h = clash (cc)

tick_in_years : (tick : ℤ) → is_writable_tick tick ≡ true ↔ (n : ℕ) × (tick ≡ pos n) × (n < 3_155_378_976_000_000)
tick_in_years (pos t) = (
  λ h. (t, refl, omega (arith, ltb-true t years_end h, years-end)),
  λ (u, e, l). let z : t ≡ u = cc in lt-ltb t years_end (omega (arith, years-end, z, l)),
)
tick_in_years (negsuc t) = (λ h. clash (cc), λ (u, e, l). clash (cc))

bound_in_years : (b : Bound) → is_writable_bound b ≡ true ↔ InYears b
bound_in_years unbounded = (λ h. tt, λ h. refl)
bound_in_years (open_at t) = tick_in_years t
bound_in_years (closed_at t) = tick_in_years t

outside_years : (v : Interval) → is_writable_stretch v ≡ true ↔ InYears v.low × InYears v.high
outside_years v = (
  λ h. let (l, r) = both_true (is_writable_bound v.low) (is_writable_bound v.high) h in ((bound_in_years v.low).0 l, (bound_in_years v.high).0 r),
  λ (l, r). rw ((bound_in_years v.low).1 l, (bound_in_years v.high).1 r) refl,
)

-- the terms stand in the order of the stretches
layout : (v : Interval) (ss : List Interval) → record_text (v ∷ ss) ≡ bytes "<stay xsi:type=\"QSU_TS\">" ++ flat_map term_text (v ∷ ss) ++ bytes "</stay>"
unfolding record_text
layout v ss = refl

pub print_promise : PrintPromise services
print_promise = record {
  listed_proper = listed_proper;
  layout = layout;
  in_order = list-bytes;
  full_timestamp = full_timestamp;
  outside_years = outside_years;
  no_stretch = no_stretch;
  read_back = read_back;
  printed = prints;
  not_writable = not_writable;
  no_room = no_room;
  reached = (longest, replicate 4_735 0, reached);
}
