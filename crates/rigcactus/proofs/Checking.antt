-- The ways through the check service.
use Prim.Native.Nat.{ℕ}
use mathlib.Core.Path.{◌≡◌, refl, sym, ◌∙◌, ap}
use mathlib.Core.Bool.{Bool, true, false, not}
use mathlib.Core.List.{List}
use mathlib.Core.Option.{Option, none, some}
use lib.Dec.{leb}
use lib.IntN.{ℤ}
use Rattle.rules.specs.Basics.{if_some}
use Rattle.rules.specs.Refusal.{Refusal, OFFSET, TOO_LONG, NOT_UTF_8, number, rank_in, rank, first_of, Outcome, answered, refused}
use Rattle.rules.specs.Markup.{Element}
use Rattle.rules.specs.Utf8.{is_utf8}
use Rattle.rules.specs.Check.{is_offset, shift_by, is_too_long, record_faults, check}
use Rattle.rules.specs.Services.{packed, check_answer}
use Rattle.rules.proofs.Tests.{clash}
use Rattle.rules.proofs.Precedence.{check-refused}
use Rattle.rules.proofs.CheckRefusals.{pass-append, pass_when, element-or_markup}
use Rattle.judge.specs.Faults.{input_faults}
use Rattle.judge.proofs.Inputs.{least_first}

module _ (offset : ℤ) (input : List ℕ) where
  -- the first fault of a record, by the agreed offset
  pub record_offset : is_offset offset ≡ false → first_of (record_faults offset input) ≡ some OFFSET
  unfolding record_faults rank_in
  record_offset e =
      rw e
      (sym (least_first OFFSET _ (pass-append after (pass-append after (pass_when after TOO_LONG (is_too_long input) refl) (pass_when after NOT_UTF_8 (not (is_utf8 input)) refl))
      (element-or_markup after refl refl refl refl refl refl refl (shift_by offset) input refl))))
    where
      after : Refusal → Bool
      after q = leb (rank OFFSET) (rank q)

  pub record_input : is_offset offset ≡ true → first_of (record_faults offset input) ≡ first_of (input_faults (shift_by offset) input)
  unfolding record_faults
  record_input e = rw e

  -- the number given is that of the first fault, 0 if there is none
  by_fault : if_some (first_of (record_faults offset input)) number 0 ≡ check_answer offset input
  by_fault = go (check offset input) refl
    where
      go : (o : Outcome Element) → check offset input ≡ o → if_some (first_of (record_faults offset input)) number 0 ≡ packed (λ e. 0) o
      go (refused r) e = rw ((check-refused offset input r).0 e)
      go (answered a) e = clean (first_of (record_faults offset input)) refl
        where
          clean : (f : Option Refusal) → first_of (record_faults offset input) ≡ f → if_some f number 0 ≡ 0
          clean none d = refl
          clean (some r) d = let z : ◌≡◌ {A = Outcome Element} (answered a) (refused r) = sym e ∙ (check-refused offset input r).1 d in clash (cc)

  pub check-offset : is_offset offset ≡ false → number OFFSET ≡ check_answer offset input
  check-offset e = ap (λ (f : Option Refusal). if_some f number 0) (sym (record_offset e)) ∙ by_fault

  pub check-judged : {f : Option Refusal} {shift : ℕ} → is_offset offset ≡ true → shift ≡ shift_by offset → f ≡ first_of (input_faults shift input)
      → if_some f number 0 ≡ check_answer offset input
  check-judged {f} {shift} e s h = ap (λ (f : Option Refusal). if_some f number 0) same ∙ by_fault
    where
      same : f ≡ first_of (record_faults offset input)
      same = h ∙ ap (λ (n : ℕ). first_of (input_faults n input)) s ∙ sym (record_input e)
