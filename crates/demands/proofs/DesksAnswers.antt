-- Demand 1 of a start, a record and a report, for any number and any table: which refusals they give, and what these keep.
use Prim.Native.Nat.{ℕ, ◌≤◌}
use mathlib.Core.Path.{◌≡◌, refl, sym, ◌∙◌, ap, subst}
use mathlib.Core.Logic.{◌⊎◌, inl, inr}
use mathlib.Core.Bool.{true}
use mathlib.Core.List.Memᴰ
use mathlib.Core.List.{List, [], ◌∷◌, Memᴰ}
use lib.ListN.{length}
use lib.IntN.{ℤ}
use Rattle.rules.specs.Basics.{exists}
use Rattle.rules.specs.Refusal.{Refusal, NO_ROW, TOTAL, DAMAGED, NO_DESK, DAY_FULL, number, Outcome, refused}
use Rattle.rules.specs.Totals.{Table, Entry, null, money}
use Rattle.rules.specs.TotalNumbers.{entry_number}
use Rattle.rules.specs.TotalDays.{Call, answer_to, Posted, damaged, full, faulty, a_null, no_row, out_of_range, added}
use Rattle.rules.specs.Desks.{rows_for, part_of}
use Rattle.rules.specs.DeskNumbers.{shared_in, start_answer, start_after, add_answer, add_after, numbers_after, report_answer, report_after}
use Rattle.rules.proofs.Tests.{clash}
use Rattle.rules.proofs.ListingPromise.{low_bits, count_bits}
use Rattle.rules.proofs.TotalReading.{reading_refusals}
use Rattle.rules.proofs.Totals.{posted}
use Rattle.demands.specs.Services.{is_among, Answers, accepts, refuses}
use Rattle.demands.specs.Demands.{add_refusals}
use Rattle.demands.proofs.Answers.{packed-answers, record_among}
use Rattle.demands.proofs.WrongTimes.{money_timeless}
use Rattle.demands.proofs.TotalsDays.{packed-number}
use Rattle.demands.proofs.DesksCalls.{Usable, Refused, part_proper, shared_refusal, of_desk_lem, case, start_given, add_given, report_given, start-refused, add-refused, report-refused, own_answer}

-- the refusals that all calls share
shared-answers : {numbers : List ℕ} {n a : ℕ} {may : List Refusal} {Result : ℕ → Type 0} {Kept : Type 0} → is_among may NO_DESK ≡ true → is_among may DAMAGED ≡ true
    → Kept → Refused numbers n a → Answers may Result Kept a
shared-answers i j kept (Refused.no_desk h) = refuses NO_DESK i (low_bits NO_DESK).0 (low_bits NO_DESK).1 kept
shared-answers i j kept (Refused.damaged h f) = refuses DAMAGED j (low_bits DAMAGED).0 (low_bits DAMAGED).1 kept

module _ (n : ℕ) (numbers : List ℕ) where
  abbrev StartAnswers : ℕ → Type 0
  StartAnswers = Answers (NO_DESK ∷ DAMAGED ∷ []) (λ n. n ≡ 0) (start_after n numbers ≡ numbers)

  pub start_answers : StartAnswers (start_answer n numbers)
  unfolding exists
  start_answers = elim (case numbers n) [
    | shared_refusal r ↦ let (e, f) = start-refused numbers n r in subst StartAnswers (sym e) (shared-answers refl refl f r)
    | of_desk_lem u ↦ subst StartAnswers (sym (start_given numbers n u).0) (accepts refl refl)
  ]

  module _ (report : List ℕ) where
    abbrev ReportAnswers : ℕ → Type 0
    ReportAnswers = Answers (NO_DESK ∷ DAMAGED ∷ []) (λ n. n ≤ 16) (report_after n numbers report ≡ report)

    pub report_answers : ReportAnswers (report_answer n numbers)
    unfolding exists
    report_answers = elim (case numbers n) [
      | shared_refusal r ↦ let (e, f) = report-refused numbers n report r in subst ReportAnswers (sym e) (shared-answers refl refl f r)
      | of_desk_lem u ↦
          let m = length (rows_for n (shared_in numbers).rows) in
          let few : m ≤ 16 = (part_proper numbers n u).few in
          subst ReportAnswers (sym (report_given numbers n u report).0) (accepts (count_bits m).0 (subst (λ i. i ≤ 16) (sym (count_bits m).1) few))
    ]

-- what a record may be refused by
among : (k : Call) (t : Table) {o : Outcome Entry} → Posted k t o → (r : Refusal) → o ≡ refused r → is_among add_refusals r ≡ true
unfolding exists
among k t (damaged d) r e = let z : r ≡ DAMAGED = cc in rw z
among k t (full d f) r e = let z : r ≡ DAY_FULL = cc in rw z
among k t (faulty u {r = q} h) r e = let z : r ≡ q = cc in rw z ((record_among q (reading_refusals k.offset k.record' h)).2 (money_timeless k q h))
among k t (a_null u h) r e = clash (cc)
among k t (no_row u h n) r e = let z : r ≡ NO_ROW = cc in rw z
among k t (out_of_range u h n i) r e = let z : r ≡ TOTAL = cc in rw z
among k t (added u h n i) r e = clash (cc)

one-or-two : (e : Entry) → (entry_number e ≡ 1) ⊎ (entry_number e ≡ 2)
one-or-two null = inr refl
one-or-two (money c z) = inl refl

module _ (n : ℕ) (offset : ℤ) (record' numbers : List ℕ) where
  abbrev k : Call
  k = record { offset = offset; record' = record' }

  abbrev answer : ℕ
  answer = add_answer n offset record' numbers

  abbrev after : List ℕ
  after = add_after n offset record' numbers

  abbrev AddAnswers : ℕ → Type 0
  AddAnswers = Answers add_refusals (λ n. (n ≡ 1) ⊎ (n ≡ 2)) (Memᴰ answer (23 ∷ 21 ∷ 25 ∷ []) → after ≡ numbers)

  -- of what a desk's part answers, 25 alone keeps the table
  kept : Usable numbers n → Memᴰ answer (23 ∷ 21 ∷ 25 ∷ []) → after ≡ numbers
  kept u m =
      let (e, f) = add_given numbers n u k in
      let o = answer_to k (part_of n (shared_in numbers)) in
      let given : (r : Refusal) → answer ≡ number r → o ≡ refused r = λ r i. (packed-number o r).0 (sym e ∙ i) in
      elim (Memᴰ.cases_cons m) [
        | inl i ↦ absurd ((own_answer numbers n u k).0 (given NO_DESK i))
        | inr m ↦ elim (Memᴰ.cases_cons m) [
          | inl i ↦ absurd ((own_answer numbers n u k).1 (given DAMAGED i))
          | inr m ↦ f ∙ ap (λ o. numbers_after n o numbers) (given DAY_FULL (Memᴰ.eq_of_singleton m))
        ]
      ]

  pub add_answers : AddAnswers answer
  unfolding exists
  add_answers = elim (case numbers n) [
    | shared_refusal r ↦ let (e, f) = add-refused numbers n k r in subst AddAnswers (sym e) (shared-answers refl refl (λ m. f) r)
    | of_desk_lem u ↦
        let t = part_of n (shared_in numbers) in
        subst AddAnswers (sym (add_given numbers n u k).0) (packed-answers entry_number (answer_to k t) (λ e h. one-or-two e) (λ r h. (among k t (posted k t) r h, kept u)))
  ]
