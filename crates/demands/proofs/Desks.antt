-- The services keep what requests A6 and A7 ask of two desks and one table, and nothing else does.
use Prim.Native.Nat.{ℕ, ◌+◌, ◌*◌, ◌^◌, ◌<◌}
use mathlib.Core.Path.{◌≡◌, refl, sym, ◌∙◌, ap, subst}
use mathlib.Core.Logic.{◌⊎◌, inl, inr, ◌↔◌}
use mathlib.Core.Bool.{Bool, true, false, not, cond}
use mathlib.Core.List.{List}
use native.Mathlib.Omega.{arith}
use lib.IntN.{ℤ, ◌+ℤ◌}
use Rattle.rules.specs.Refusal.{Refusal, NO_ROW, TOTAL, DAMAGED, NO_DESK, DAY_FULL, number, Outcome, answered, refused}
use Rattle.rules.specs.Services.{packed, overwrite}
use Rattle.rules.specs.Totals.{Table, is_in_range, is_held, Entry, money, new_total, is_uncounted}
use Rattle.rules.specs.TotalNumbers.{Lent, entry_number}
use Rattle.rules.specs.TotalDays.{Call, reading_of, answer_to, IsUsable, HasNoRow, Posted, damaged, full, faulty, a_null, no_row, out_of_range, added}
use Rattle.rules.specs.Desks.{Shared, part_of, recorded_of}
use Rattle.rules.specs.DeskNumbers.{shared_in, shared_numbers, numbers_after, start_answer, start_after, add_answer, add_after, report_answer, report_after}
use Rattle.rules.proofs.Tests.{clash}
use Rattle.rules.proofs.TotalReading.{reading-currency, reading_refusals}
use Rattle.rules.proofs.Totals.{posted, posted_only, ladder_counted, exactly-full, exactly_no_row, exactly-total}
use Rattle.rules.proofs.Desks.{desk_is, Sound, faultless}
use Rattle.rules.proofs.DeskNumbers.{at-most_32}
use Rattle.demands.specs.Services.{services}
use Rattle.demands.specs.Totals.{IsTotal, TotalsPromise}
use Rattle.demands.specs.Desks.{IsDesk, IsFaulty, held_in, counts_from, total_at, how_many_of, Undamaged, NotFull, Refuses, Starting, raised, IsAt, Adding, Reporting, Exactly, DesksPromise}
use Rattle.demands.proofs.Answers.{iff_trans}
use Rattle.demands.proofs.TotalsNumbers.{letters_of, range_of, total_of, total-range, no_total}
use Rattle.demands.proofs.TotalsReadings.{reads, amount-read, reading_small}
use Rattle.demands.proofs.TotalsDays.{packed-number}
use Rattle.demands.proofs.DesksRows.{small_at, all_small, own_many}
use Rattle.demands.proofs.DesksDamage.{is-desk, not-desk, counts_are, damage_is, sound-is, table-says}
use Rattle.demands.proofs.DesksHeld.{total-new, total-at, none-held, held-row, not-held, has_no_row}
use Rattle.demands.proofs.DesksNumbers.{start-numbers, null-numbers, refused-numbers, report-numbers}
use Rattle.demands.proofs.DesksAdded.{added-held, added_new}
use Rattle.demands.proofs.DesksCalls.{Usable, Refused, shared_refusal, of_desk_lem, case, part_proper, part_undamaged, own_answer, start_given, add_given, report_given, start-refused, add-refused, report-refused}
use Rattle.demands.proofs.DesksDays.{others_kept, lent_at, sound-at, day-at, limits-at, full_at, own_calls, same_part, isolated}

pub totals_kept : TotalsPromise
totals_kept = record { readings = reads; amounts = amount-read; range = range_of }

-- what is so with an answer and numbers is so with those that they are
meets : (P : ℕ → List ℕ → Type 0) {a b : ℕ} {x y : List ℕ} → P a x → (a ≡ b) × (x ≡ y) → P b y
meets P {a} {y = y} h (e, f) = subst (λ a. P a y) e (subst (P a) f h)

module _ (numbers : List ℕ) (lent : Lent 103 numbers) (n : ℕ) where
  abbrev s : Shared
  s = shared_in numbers

  abbrev t : Table
  t = part_of n s

  -- the tests, in the words of the promise
  usable : Undamaged numbers n → Usable numbers n
  usable u = record { desk = is-desk n u.desk; sound = (sound-is numbers lent).1 u.sound }

  undamaged : Usable numbers n → Undamaged numbers n
  undamaged u = record { desk = desk_is n u.desk; sound = (sound-is numbers lent).0 u.sound }

  refused_so : {a : ℕ} → Refuses numbers n a → Refused numbers n a
  refused_so (Refuses.no_desk h) = Refused.no_desk ((not-desk n).1 h)
  refused_so (Refuses.damaged d f) = Refused.damaged (is-desk n d) ((damage_is numbers lent).1 f)

  refuses_so : {a : ℕ} → Refused numbers n a → Refuses numbers n a
  refuses_so (Refused.no_desk h) = Refuses.no_desk ((not-desk n).0 h)
  refuses_so (Refused.damaged d f) = Refuses.damaged (desk_is n d) ((damage_is numbers lent).0 f)

  sound : Usable numbers n → Sound s
  sound u = (faultless s).0 u.sound

  pub starting_only : {a : ℕ} {x : List ℕ} → Starting numbers n a x → (a ≡ start_answer n numbers) × (x ≡ start_after n numbers)
  starting_only (Starting.refuses r) = let (e, f) = start-refused numbers n (refused_so r) in (sym e, sym f)
  starting_only (Starting.started u) =
      let v = usable u in
      let (e, f) = start_given numbers n v in
      (sym e, sym (f ∙ start-numbers numbers lent (sound v) n v.desk))

  starting : Starting numbers n (start_answer n numbers) (start_after n numbers)
  starting = elim (case numbers n) [ shared_refusal r ↦ is (Starting.refuses (refuses_so r)) | of_desk_lem u ↦ is (Starting.started (undamaged u)) ]
    where
      is : {a : ℕ} {x : List ℕ} → Starting numbers n a x → Starting numbers n (start_answer n numbers) (start_after n numbers)
      is h = meets (Starting numbers n) h (starting_only h)

  pub reporting_only : (before : List ℕ) {a : ℕ} {x : List ℕ} → Reporting numbers before n a x → (a ≡ report_answer n numbers) × (x ≡ report_after n numbers before)
  reporting_only before (Reporting.refuses r) = let (e, f) = report-refused numbers n before (refused_so r) in (sym e, sym f)
  reporting_only before (Reporting.reported u) =
      let v = usable u in
      let (e, f) = report_given numbers n v before in
      let (i, j) = report-numbers numbers lent (sound v) n v.desk in
      (sym (e ∙ ap (λ m. m * 2 ^ 8) i), sym (f ∙ ap (overwrite before) j))

  reporting : (before : List ℕ) → Reporting numbers before n (report_answer n numbers) (report_after n numbers before)
  reporting before = elim (case numbers n) [ shared_refusal r ↦ is (Reporting.refuses (refuses_so r)) | of_desk_lem u ↦ is (Reporting.reported (undamaged u)) ]
    where
      is : {a : ℕ} {x : List ℕ} → Reporting numbers before n a x → Reporting numbers before n (report_answer n numbers) (report_after n numbers before)
      is h = meets (Reporting numbers before n) h (reporting_only before h)

  -- a record
  module _ (k : Call) where
    abbrev answer : ℕ
    answer = add_answer n k.offset k.record' numbers

    abbrev after : List ℕ
    after = add_after n k.offset k.record' numbers

    -- what a desk's part answers, case by case, by the numbers
    module _ (u : Usable numbers n) where
      given : {o : Outcome Entry} → Posted k t o → (packed entry_number o ≡ answer) × (numbers_after n o numbers ≡ after)
      given h =
          let (e, f) = add_given numbers n u k in
          let g = posted_only k t h in
          (sym (e ∙ ap (packed entry_number) g), sym (f ∙ ap (λ o. numbers_after n o numbers) g))

      refused_given : {r : Refusal} → is_uncounted r ≡ false → Posted k t (refused r) → (number r ≡ answer) × (raised (2 + counts_from n) numbers ≡ after)
      refused_given {r} c h =
          let (e, f) = given h in
          (e, sym (ap (λ b. cond (not b) (overwrite numbers (shared_numbers (recorded_of n (refused r) s))) numbers) c ∙ refused-numbers numbers lent (sound u) n u.desk r c) ∙ f)

      is_usable : NotFull numbers n → IsUsable t
      is_usable v = record { undamaged = part_undamaged numbers n u; not_full = λ f. v.room (sym (counts_are numbers lent n) ∙ f) }

      not_full : IsUsable t → NotFull numbers n
      not_full v = record { undamaged = undamaged u; room = λ f. v.not_full (counts_are numbers lent n ∙ f) }

      module _ {c : List ℕ} {z : ℤ} (h : reading_of k ≡ answered (money c z)) where
        no_row_so : HasNoRow c t.rows ↔ ((i : ℕ) → IsAt numbers n c i → ⊥) × (how_many_of n numbers (held_in numbers) ≡ 16)
        no_row_so = has_no_row numbers lent (sound u) n u.desk c (reading-currency k.offset k.record' h)

        sum-at : (i : ℕ) → IsAt numbers n c i → {x : ℤ} → IsTotal x (total_at numbers i) → new_total c z t.rows ≡ x +ℤ z
        sum-at i a x = total-at numbers lent (sound u) n u.desk c i a x z

        held_so : (b : Bool) → is_held c t.rows ≡ b
            → ((i : ℕ) × IsAt numbers n c i × ((x : ℤ) × IsTotal x (total_at numbers i))) ⊎ (((i : ℕ) → IsAt numbers n c i → ⊥) × (new_total c z t.rows ≡ z))
        held_so true e = inl (held-row numbers lent (sound u) n u.desk c (reading-currency k.offset k.record' h) e)
        held_so false e = inr (none-held numbers lent (sound u) n u.desk c e, total-new c z t.rows e)

        -- a new total out of range is of a row that is held: an amount by itself is within it
        outside_so : is_in_range (new_total c z t.rows) ≡ false
            → (i : ℕ) × IsAt numbers n c i × ((x : ℤ) × IsTotal x (total_at numbers i) × ((total : ℕ) → IsTotal (x +ℤ z) total → ⊥))
        outside_so e = elim (held_so (is_held c t.rows) refl) [
          | inl (i, a, (x, y)) ↦ (i, a, (x, y, (no_total (x +ℤ z)).0 (sym (ap is_in_range (sum-at i a y)) ∙ e)))
          | inr (m, f) ↦ let g = reading_small k h in let j = sym (ap is_in_range f) ∙ e in clash (cc)
        ]

        room_so : ((i : ℕ) → IsAt numbers n c i → ⊥) → (HasNoRow c t.rows → ⊥) → how_many_of n numbers (held_in numbers) < 16
        room_so none m =
            let w : how_many_of n numbers (held_in numbers) ≡ 16 → ⊥ = λ l. m (no_row_so.1 (none, l)) in
            omega (arith, own_many numbers (at-most_32 s (sound u)) n, (part_proper numbers n u).few)

    -- every case has its answer and its numbers, and no other
    pub adding_only : {a : ℕ} {x : List ℕ} → Adding numbers n k a x → (a ≡ answer) × (x ≡ after)
    adding_only (Adding.refuses r) = let (e, f) = add-refused numbers n k (refused_so r) in (sym e, sym f)
    adding_only (Adding.full_day u f) = let v = usable u in given v (full (part_undamaged numbers n v) (counts_are numbers lent n ∙ f))
    adding_only (Adding.faulty_record {r = r} v h) =
        let u = usable v.undamaged in
        refused_given u (ladder_counted r (reading_refusals k.offset k.record' h)) (faulty (is_usable u v) h)
    adding_only (Adding.null_record v h) =
        let u = usable v.undamaged in
        let (e, f) = given u (a_null (is_usable u v) h) in
        (e, sym (null-numbers numbers lent (sound u) n u.desk) ∙ f)
    adding_only (Adding.no_row v h none l) = let u = usable v.undamaged in refused_given u refl (no_row (is_usable u v) h ((no_row_so u h).1 (none, l)))
    adding_only (Adding.out_of_range v h i a x m) =
        let u = usable v.undamaged in
        refused_given u refl (out_of_range (is_usable u v) h (λ q. ((no_row_so u h).0 q).0 i a) (ap is_in_range (sum-at u h i a x) ∙ (no_total _).1 m))
    adding_only (Adding.added_to_row {c = c} {z = z} v h i a x y) =
        let u = usable v.undamaged in
        let (e, f) = given u (added (is_usable u v) h (λ q. ((no_row_so u h).0 q).0 i a) (ap is_in_range (sum-at u h i a x) ∙ total-range _ y)) in
        (e, sym (added-held numbers lent (sound u) n u.desk c z i a x y) ∙ f)
    adding_only (Adding.added_row {c = c} {z = z} v h none l a y) =
        let u = usable v.undamaged in
        let new = total-new c z t.rows (not-held numbers lent (sound u) n u.desk c (reading-currency k.offset k.record' h) none) in
        let (e, f) = given u (added (is_usable u v) h (λ q. omega (arith, l, ((no_row_so u h).0 q).1)) (ap is_in_range new ∙ total-range z y)) in
        (e, sym (added_new numbers lent (sound u) n u.desk c z none l a y) ∙ f)

    adding : Adding numbers n k answer after
    adding = elim (case numbers n) [ shared_refusal r ↦ is (Adding.refuses (refuses_so r)) | of_desk_lem u ↦ by_case u (posted k t) ]
      where
        is : {a : ℕ} {x : List ℕ} → Adding numbers n k a x → Adding numbers n k answer after
        is h = meets (Adding numbers n k) h (adding_only h)

        by_case : Usable numbers n → {o : Outcome Entry} → Posted k t o → Adding numbers n k answer after
        by_case u (damaged d) = let e = part_undamaged numbers n u in clash (cc)
        by_case u (full d f) = is (Adding.full_day (undamaged u) (sym (counts_are numbers lent n) ∙ f))
        by_case u (faulty v h) = is (Adding.faulty_record (not_full u v) h)
        by_case u (a_null v h) = is (Adding.null_record (not_full u v) h)
        by_case u (no_row v h m) = let (none, l) = (no_row_so u h).0 m in is (Adding.no_row (not_full u v) h none l)
        by_case u (out_of_range v h m e) = let (i, a, (x, y, w)) = outside_so u h e in is (Adding.out_of_range (not_full u v) h i a y w)
        by_case u (added v {c = c} {z = z} h m e) = elim (held_so u h (is_held c t.rows) refl) [
          | inl (i, a, (x, y)) ↦ is (Adding.added_to_row (not_full u v) h i a y (total_of (x +ℤ z) (sym (ap is_in_range (sum-at u h i a y)) ∙ e)))
          | inr (none, f) ↦
              is (Adding.added_row (not_full u v) h none (room_so u h none m) (letters_of c (reading-currency k.offset k.record' h)) (total_of z (reading_small k h)))
        ]

    -- each refusal is given exactly if what it is for is so
    refused_by : Usable numbers n → (r : Refusal) → answer ≡ number r ↔ answer_to k t ≡ refused r
    refused_by u r = let e = (add_given numbers n u k).0 in iff_trans (λ i. sym e ∙ i, λ i. e ∙ i) (packed-number (answer_to k t) r)

    own_refusal : (r : Refusal) → (number r ≡ 23 → ⊥) → (number r ≡ 21 → ⊥) → answer ≡ number r → Usable numbers n × (answer_to k t ≡ refused r)
    own_refusal r i j e = elim (case numbers n) [
      | shared_refusal q ↦ absurd (other q (sym (add-refused numbers n k q).0 ∙ e))
      | of_desk_lem u ↦ (u, (refused_by u r).0 e)
    ]
      where
        other : {a : ℕ} → Refused numbers n a → a ≡ number r → ⊥
        other (Refused.no_desk h) e = i (sym e)
        other (Refused.damaged h f) e = j (sym e)

    no_desk_given : answer ≡ 23 → IsDesk n → ⊥
    no_desk_given e d = elim (case numbers n) [
      | shared_refusal q ↦ go (refuses_so q) (sym (add-refused numbers n k q).0 ∙ e)
      | of_desk_lem u ↦ (own_answer numbers n u k).0 ((refused_by u NO_DESK).0 e)
    ]
      where
        go : {a : ℕ} → Refuses numbers n a → a ≡ 23 → ⊥
        go (Refuses.no_desk h) e = h d
        go (Refuses.damaged h f) e = omega arith

    damaged_given : answer ≡ 21 → IsDesk n × IsFaulty numbers
    damaged_given e = elim (case numbers n) [
      | shared_refusal q ↦ go (refuses_so q) (sym (add-refused numbers n k q).0 ∙ e)
      | of_desk_lem u ↦ absurd ((own_answer numbers n u k).1 ((refused_by u DAMAGED).0 e))
    ]
      where
        go : {a : ℕ} → Refuses numbers n a → a ≡ 21 → IsDesk n × IsFaulty numbers
        go (Refuses.no_desk h) e = absurd (omega arith)
        go (Refuses.damaged h f) e = (h, f)

    exact : Exactly numbers n k answer
    exact = record {
      no_desk = (no_desk_given, λ h. so (Adding.refuses (Refuses.no_desk h)));
      damaged = (damaged_given, λ (d, f). so (Adding.refuses (Refuses.damaged d f)));
      day_full = (
        λ e. let (u, f) = own_refusal DAY_FULL (λ z. omega arith) (λ z. omega arith) e in (undamaged u, sym (counts_are numbers lent n) ∙ ((exactly-full k t).0 f).1),
        λ (u, f). so (Adding.full_day u f),
      );
      no_row = (
        λ e.
            let (u, f) = own_refusal NO_ROW (λ z. omega arith) (λ z. omega arith) e in
            let (c, z, v, h, m) = (exactly_no_row k t).0 f in
            let (none, l) = (no_row_so u h).0 m in
            (c, z, not_full u v, h, none, l),
        λ (c, z, v, h, none, l). so (Adding.no_row v h none l),
      );
      total = (
        λ e.
            let (u, f) = own_refusal TOTAL (λ z. omega arith) (λ z. omega arith) e in
            let (c, z, v, h, m, j) = (exactly-total k t).0 f in
            let (i, a, (x, y, w)) = outside_so u h j in
            (c, z, x, i, not_full u v, h, a, y, w),
        λ (c, z, x, i, v, h, a, y, w). so (Adding.out_of_range v h i a y w),
      );
    }
      where
        so : {a : ℕ} {x : List ℕ} → Adding numbers n k a x → answer ≡ a
        so h = sym (adding_only h).0

pub desks_kept : DesksPromise services
desks_kept = record {
  lent = λ count numbers. (λ l. (l.long, small_at numbers l.bits), λ (l, b). record { long = l; bits = all_small numbers b });
  opens = λ numbers l. (refl, refl);
  own_calls = own_calls;
  isolation = λ before alone l m n d o. (isolated before alone n d o, same_part before alone n d o);
  days = λ before l h n d. day-at before n d h;
  limits = λ before l h n d. limits-at before n d h;
  full_days = λ before l h n d. full_at before n d h;
  tables = λ before l h. (lent_at before h, (sound-is _ (lent_at before h)).0 (sound-at before h));
  says = table-says;
  starts = starting;
  adds = adding;
  exactly = exact;
  reports = λ numbers before l m n. reporting numbers l n before;
  others = others_kept;
}
