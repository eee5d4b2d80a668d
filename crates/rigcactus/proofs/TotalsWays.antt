-- The ways through the services of two desks' totals.
use Prim.Native.Nat.{ℕ, ◌*◌, ◌^◌, ◌≤◌}
use mathlib.Core.Path.{◌≡◌, refl, sym, ◌∙◌, ap, ap₂}
use mathlib.Core.Bool.{Bool, true, false, not, cond}
use mathlib.Core.List.{List}
use native.Mathlib.Omega.{arith}
use borrow.Author.Tests.{eqb-false, ne_eqb, not-true, not-false}
use lib.Dec.{eqb}
use lib.ListN.{length}
use lib.IntN.{ℤ}
use Rattle.rules.specs.Refusal.{DAMAGED, NO_DESK, DAY_FULL, number, Outcome, ◌and_then◌}
use Rattle.rules.specs.Services.{packed, overwrite}
use Rattle.rules.specs.Totals.{Table as RulesTable, empty_table, counted, is_full, Entry, reading, fitting, posting, is_counted, recorded, reporting}
use Rattle.rules.specs.TotalNumbers.{report_numbers, entry_number}
use Rattle.rules.specs.TotalDays.{Call, answer_to, IsUsable, Posted, damaged, full, faulty, a_null, no_row, out_of_range, added}
use Rattle.rules.specs.Desks.{is_desk, part_of, with_part, is_faulty, of_desk, posting_of, recorded_of}
use Rattle.rules.specs.DeskNumbers.{shared_in, shared_numbers, start_answer, start_after, numbers_after, add_answer, add_after, report_answer, report_after}
use Rattle.rules.proofs.Tests.{clash}
use Rattle.rules.proofs.TotalReading.{reading_refusals}
use Rattle.rules.proofs.Totals.{Proper, undamaged, posted, step_proper, ladder_counted}
use Rattle.rules.proofs.Desks.{faultless, sound_part}
use Rattle.totals.specs.Tables.{counts_meant, table_meant, Holds, report_of}
use Rattle.totals.specs.Readings.{reading_meant, Sound, Usable, PostedAs}
use Rattle.totals.specs.declared.Table.{Table}
use Rattle.totals.specs.declared.post.Posted.{Posted as CodePosted}
use Rattle.totals.proofs.Meaning.{report-meant}

-- a desk or none, as it was asked
pub none : (n : ℕ) {b : Bool} → b ≡ is_desk n → not b ≡ true → is_desk n ≡ false
none n {b} e f = sym e ∙ not-true b f

pub some : (n : ℕ) {b : Bool} → b ≡ is_desk n → not b ≡ false → is_desk n ≡ true
some n {b} e f = sym e ∙ not-false b f

-- what is said and left by each of the three services, of one desk and one table
pub record Started (n : ℕ) (numbers : List ℕ) (answer : ℕ) (after : List ℕ) : Type 0 where
  pub answers : answer ≡ start_answer n numbers
  pub leaves : after ≡ start_after n numbers

pub record Adds (n : ℕ) (offset : ℤ) (input numbers : List ℕ) (answer : ℕ) (after : List ℕ) : Type 0 where
  pub answers : answer ≡ add_answer n offset input numbers
  pub leaves : after ≡ add_after n offset input numbers

pub record Reports (n : ℕ) (numbers before : List ℕ) (answer : ℕ) (after : List ℕ) : Type 0 where
  pub answers : answer ≡ report_answer n numbers
  pub leaves : after ≡ report_after n numbers before

-- no desk
module _ (n : ℕ) (numbers : List ℕ) (d : is_desk n ≡ false) where
  pub start-nowhere : Started n numbers (number NO_DESK) numbers
  unfolding of_desk
  start-nowhere = record { answers = rw d refl; leaves = rw d refl }

  pub add-nowhere : (offset : ℤ) (input : List ℕ) → Adds n offset input numbers (number NO_DESK) numbers
  unfolding of_desk
  add-nowhere offset input = record { answers = rw d refl; leaves = rw d refl }

  pub report-nowhere : (before : List ℕ) → Reports n numbers before (number NO_DESK) before
  unfolding of_desk
  report-nowhere before = record { answers = rw d refl; leaves = rw d refl }

-- a damaged table
module _ (n : ℕ) (numbers : List ℕ) (d : is_desk n ≡ true) (f : is_faulty (shared_in numbers) ≡ true) where
  pub start-damaged : Started n numbers (number DAMAGED) numbers
  unfolding of_desk
  start-damaged = record { answers = rw (d, f) refl; leaves = rw (d, f) refl }

  pub add-damaged : (offset : ℤ) (input : List ℕ) → Adds n offset input numbers (number DAMAGED) numbers
  unfolding of_desk
  add-damaged offset input = record { answers = rw (d, f) refl; leaves = rw (d, f) refl }

  pub report-damaged : (before : List ℕ) → Reports n numbers before (number DAMAGED) before
  unfolding of_desk
  report-damaged before = record { answers = rw (d, f) refl; leaves = rw (d, f) refl }

-- one that is not
module _ (n : ℕ) (numbers : List ℕ) (d : is_desk n ≡ true) (f : is_faulty (shared_in numbers) ≡ false) where
  abbrev mine : RulesTable
  mine = part_of n (shared_in numbers)

  proper : Proper mine
  proper = sound_part (shared_in numbers) ((faultless (shared_in numbers)).0 f) n d

  pub started : Started n numbers 0 (overwrite numbers (shared_numbers (with_part n empty_table (shared_in numbers))))
  unfolding of_desk
  started = record { answers = rw (d, f) refl; leaves = rw (d, f) refl }

  -- its part, as code holds it
  module _ (t : Table) (h : Holds mine t) where
    pub few : t.held ≤ 16
    few = omega (arith, h.held, proper.few)

    pub says : table_meant t ≡ mine
    says = h.says few

    pub below : counted (counts_meant t) ≤ 1_000_000
    below = let e = ap (λ x. counted x.counts) says in omega (arith, proper.below)

    pub usable : eqb (counted (counts_meant t)) 1_000_000 ≡ false → Usable t
    usable e =
        let m = eqb-false (counted (counts_meant t)) 1_000_000 e in
        record { few = few; undamaged = (undamaged (table_meant t)).1 (rw says proper); bits = h.bits few; room = omega (arith, below) }

    pub reports : (before : List ℕ) → Reports n numbers before (t.held * 2 ^ 8) (overwrite before (report_of t))
    unfolding of_desk reporting
    reports before =
        let e : length mine.rows ≡ t.held = omega (arith, h.held, proper.few) in
        let g = (undamaged mine).1 proper in
        record {
          answers = rw (d, f, g) (ap (λ m. m * 2 ^ 8) (sym e));
          leaves = rw (d, f, g) (ap (overwrite before) (report-meant t (rw says proper) (h.bits few) ∙ ap report_numbers says));
        }

    module _ (offset : ℤ) (input : List ℕ) where
      abbrev k : Call
      k = record { offset = offset; record' = input }

      pub add-full : eqb (counted (counts_meant t)) 1_000_000 ≡ true → Adds n offset input numbers (number DAY_FULL) numbers
      unfolding of_desk posting
      add-full e =
          let g : is_full mine ≡ true = sym (ap is_full says) ∙ e in
          record { answers = rw (d, f, (undamaged mine).1 proper, g) refl; leaves = rw (d, f, (undamaged mine).1 proper, g) refl }

      usable_in : Usable t → IsUsable mine
      usable_in u = record { undamaged = (undamaged mine).1 proper; not_full = λ e. omega (arith, u.room, ap (λ x. counted x.counts) says) }

      -- what is not answered 21 or 25 is counted
      is-counted : IsUsable mine → {o : Outcome Entry} → Posted k mine o → is_counted o ≡ true
      is-counted u (damaged x) = let e = u.undamaged in clash (cc)
      is-counted u (full x e) = absurd (u.not_full e)
      is-counted u (faulty v {r = r} e) = rw (ladder_counted r (reading_refusals offset input e)) refl
      is-counted u (a_null v e) = refl
      is-counted u (no_row v e i) = refl
      is-counted u (out_of_range v e i j) = refl
      is-counted u (added v e i j) = refl

      posting_usable : IsUsable mine → answer_to k mine ≡ (reading offset input and_then fitting mine.rows)
      unfolding posting
      posting_usable u = rw (u.undamaged, ne_eqb (counted mine.counts) 1_000_000 u.not_full) refl

      asked : posting_of n offset input (shared_in numbers) ≡ answer_to k mine
      unfolding of_desk
      asked = rw (d, f) refl

      -- a record posted
      module _ (u : Usable t) {o : Outcome Entry} {p : CodePosted} (r : o ≡ reading offset input) (q : PostedAs t o p) where
        answer-is : (o and_then fitting (table_meant t).rows) ≡ answer_to k mine
        answer-is = ap₂ (λ y z. y and_then fitting z.rows) r says ∙ sym (posting_usable (usable_in u))

        table_is : table_meant p.table ≡ recorded (answer_to k mine) mine
        table_is = q.table ∙ ap₂ recorded answer-is says

        pub posted_sound : Sound p.table
        posted_sound = record { few = q.few; undamaged = (undamaged (table_meant p.table)).1 (rw table_is (step_proper k mine proper (posted k mine))); bits = q.bits }

        pub add_posted : {m : ℕ} → m ≡ packed entry_number (reading_meant p.answer) → Adds n offset input numbers m (overwrite numbers (shared_numbers (with_part n (table_meant p.table) (shared_in numbers))))
        add_posted e = record {
          answers = e ∙ q.number ∙ ap (packed entry_number) (answer-is ∙ sym asked);
          leaves =
              ap (λ y. overwrite numbers (shared_numbers (with_part n y (shared_in numbers)))) table_is
              ∙ sym (ap (λ b. cond b (numbers_after n (posting_of n offset input (shared_in numbers)) numbers) numbers) d
              ∙ ap (λ o. numbers_after n o numbers) asked
              ∙ ap (λ b. cond b (overwrite numbers (shared_numbers (recorded_of n (answer_to k mine) (shared_in numbers)))) numbers) (is-counted (usable_in u) (posted k mine)));
        }
