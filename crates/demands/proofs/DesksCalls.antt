-- What the calls of a desk say and leave: what its part is asked, or a refusal that all of them share.
use Prim.Native.Nat.{ℕ, ◌*◌, ◌^◌}
use mathlib.Core.Path.{◌≡◌, refl, ◌∙◌, ap, subst}
use mathlib.Core.Bool.{Bool, true, false, cond}
use mathlib.Core.List.{List}
use lib.ListN.{length}
use Rattle.rules.specs.Refusal.{Refusal, DAMAGED, NO_DESK, number, rank_in, Outcome, answered, refused}
use Rattle.rules.specs.Services.{packed, lent_after, overwrite}
use Rattle.rules.specs.Totals.{Table, empty_table, is_damaged, reporting}
use Rattle.rules.specs.TotalNumbers.{report_numbers, entry_number}
use Rattle.rules.specs.TotalDays.{Call, answer_to, Posted, faulty}
use Rattle.rules.specs.Desks.{Shared, is_desk, rows_for, part_of, with_part, is_faulty, of_desk, starting, posting_of, reporting_of}
use Rattle.rules.specs.DeskNumbers.{shared_in, shared_numbers, start_answer, start_after, add_answer, add_after, numbers_after, report_answer, report_after}
use Rattle.rules.proofs.Tests.{clash}
use Rattle.rules.proofs.Totals.{Proper, undamaged, posted, exactly-damaged}
use Rattle.rules.proofs.TotalReading.{reading_refusals}
use Rattle.rules.proofs.CheckRefusals.{is_of_record}
use Rattle.rules.proofs.Desks.{faultless, sound_part}

-- a desk, and a table that is not damaged
pub record Usable (numbers : List ℕ) (n : ℕ) : Type 0 where
  pub desk : is_desk n ≡ true
  pub sound : is_faulty (shared_in numbers) ≡ false

-- a refusal that all calls share
pub data Refused (numbers : List ℕ) (n : ℕ) : (answer : ℕ) → Type 0 where
  no_desk : is_desk n ≡ false → Refused numbers n (number NO_DESK)
  damaged : is_desk n ≡ true → is_faulty (shared_in numbers) ≡ true → Refused numbers n (number DAMAGED)

-- a call is refused so, or it is a desk's
pub data Case (numbers : List ℕ) (n : ℕ) : Type 0 where
  shared_refusal : {a : ℕ} → Refused numbers n a → Case numbers n
  of_desk_lem : Usable numbers n → Case numbers n

module _ (numbers : List ℕ) (n : ℕ) where
  abbrev s : Shared
  s = shared_in numbers

  pub case : Case numbers n
  case = by_desk (is_desk n) refl
    where
      by_fault : is_desk n ≡ true → (b : Bool) → is_faulty s ≡ b → Case numbers n
      by_fault d true f = shared_refusal (damaged d f)
      by_fault d false f = of_desk_lem (record { desk = d; sound = f })

      by_desk : (b : Bool) → is_desk n ≡ b → Case numbers n
      by_desk true d = by_fault d (is_faulty s) refl
      by_desk false d = shared_refusal (no_desk d)

  module _ (u : Usable numbers n) where
    -- a desk's call asks its part
    asked : {A : Type 0} (ask : Table → Outcome A) → of_desk n ask s ≡ ask (part_of n s)
    unfolding of_desk
    asked ask = rw (u.desk, u.sound)

    pub part_proper : Proper (part_of n s)
    part_proper = sound_part s ((faultless s).0 u.sound) n u.desk

    pub part_undamaged : is_damaged (part_of n s) ≡ false
    part_undamaged = (undamaged (part_of n s)).1 part_proper

    -- its own answer to a record is neither 23 nor 21
    pub own_answer : (k : Call) → (answer_to k (part_of n s) ≡ refused NO_DESK → ⊥) × (answer_to k (part_of n s) ≡ refused DAMAGED → ⊥)
    unfolding is_of_record rank_in
    own_answer k = (λ e. none (subst (Posted k (part_of n s)) e (posted k (part_of n s))), λ e. let d = (exactly-damaged k (part_of n s)).0 e in clash (cc part_undamaged))
      where
        none : Posted k (part_of n s) (refused NO_DESK) → ⊥
        none (faulty u h) = let i = reading_refusals k.offset k.record' h in clash (cc)

    reported : reporting (part_of n s) ≡ answered (part_of n s)
    unfolding reporting
    reported = ap (λ b. cond b (refused DAMAGED) (answered (part_of n s))) part_undamaged

    pub start_given : (start_answer n numbers ≡ 0) × (start_after n numbers ≡ overwrite numbers (shared_numbers (with_part n empty_table s)))
    start_given =
        let e : starting n s ≡ answered (with_part n empty_table s) = asked (λ t. answered (with_part n empty_table s)) in
        (ap (packed (λ s. 0)) e, ap (λ o. lent_after (λ s. overwrite numbers (shared_numbers s)) o numbers) e)

    pub add_given : (k : Call)
        → (add_answer n k.offset k.record' numbers ≡ packed entry_number (answer_to k (part_of n s)))
        × (add_after n k.offset k.record' numbers ≡ numbers_after n (answer_to k (part_of n s)) numbers)
    add_given k =
        let e : posting_of n k.offset k.record' s ≡ answer_to k (part_of n s) = asked (answer_to k) in (
          ap (packed entry_number) e,
          ap (λ b. cond b (numbers_after n (posting_of n k.offset k.record' s) numbers) numbers) u.desk ∙ ap (λ o. numbers_after n o numbers) e,
        )

    pub report_given : (lent : List ℕ)
        → (report_answer n numbers ≡ length (rows_for n s.rows) * 2 ^ 8) × (report_after n numbers lent ≡ overwrite lent (report_numbers (part_of n s)))
    report_given lent =
        let e : reporting_of n s ≡ answered (part_of n s) = asked reporting ∙ reported in
        (ap (packed (λ t. length t.rows)) e, ap (λ o. lent_after (λ t. overwrite lent (report_numbers t)) o lent) e)

  -- a refusal keeps what is lent
  no_part : is_desk n ≡ false → {A : Type 0} (ask : Table → Outcome A) → of_desk n ask s ≡ refused NO_DESK
  unfolding of_desk
  no_part d ask = rw d

  faulty_part : is_desk n ≡ true → is_faulty s ≡ true → {A : Type 0} (ask : Table → Outcome A) → of_desk n ask s ≡ refused DAMAGED
  unfolding of_desk
  faulty_part d f ask = rw (d, f)

  start_kept : (r : Refusal) → starting n s ≡ refused r → (start_answer n numbers ≡ number r) × (start_after n numbers ≡ numbers)
  start_kept r e = (ap (packed (λ s. 0)) e, ap (λ o. lent_after (λ s. overwrite numbers (shared_numbers s)) o numbers) e)

  report_kept : (lent : List ℕ) (r : Refusal) → reporting_of n s ≡ refused r → (report_answer n numbers ≡ number r) × (report_after n numbers lent ≡ lent)
  report_kept lent r e = (ap (packed (λ t. length t.rows)) e, ap (λ o. lent_after (λ t. overwrite lent (report_numbers t)) o lent) e)

  pub start-refused : {a : ℕ} → Refused numbers n a → (start_answer n numbers ≡ a) × (start_after n numbers ≡ numbers)
  start-refused (no_desk h) = start_kept NO_DESK (no_part h _)
  start-refused (damaged h f) = start_kept DAMAGED (faulty_part h f _)

  pub report-refused : (lent : List ℕ) {a : ℕ} → Refused numbers n a → (report_answer n numbers ≡ a) × (report_after n numbers lent ≡ lent)
  report-refused lent (no_desk h) = report_kept lent NO_DESK (no_part h _)
  report-refused lent (damaged h f) = report_kept lent DAMAGED (faulty_part h f _)

  pub add-refused : (k : Call) {a : ℕ} → Refused numbers n a → (add_answer n k.offset k.record' numbers ≡ a) × (add_after n k.offset k.record' numbers ≡ numbers)
  add-refused k (no_desk h) =
      (ap (packed entry_number) (no_part h (answer_to k)), ap (λ b. cond b (numbers_after n (posting_of n k.offset k.record' s) numbers) numbers) h)
  add-refused k (damaged h f) =
      let e = faulty_part h f (answer_to k) in (
        ap (packed entry_number) e,
        ap (λ b. cond b (numbers_after n (posting_of n k.offset k.record' s) numbers) numbers) h ∙ ap (λ o. numbers_after n o numbers) e,
      )
