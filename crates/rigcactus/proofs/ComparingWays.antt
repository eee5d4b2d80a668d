-- The ways through the comparison service.
use Prim.Native.Nat.{ℕ}
use mathlib.Core.Path.{◌≡◌, refl, sym, ◌∙◌, ap}
use mathlib.Core.Bool.{true, false}
use mathlib.Core.List.{List}
use mathlib.Core.Option.{Option, none, some}
use lib.IntN.{ℤ}
use Rattle.rules.specs.Refusal.{Refusal, OFFSET, first_of, Outcome, answered, refused}
use Rattle.rules.specs.Markup.{Element}
use Rattle.rules.specs.Check.{is_offset, shift_by, record_faults, check}
use Rattle.rules.specs.Services.{Compared, refused_first, refused_second, compare_checked, comparison, compared_number, compare_answer}
use Rattle.rules.proofs.Tests.{clash}
use Rattle.rules.proofs.Precedence.{check-refused}
use Rattle.judge.specs.Faults.{input_faults}
use Rattle.rigcactus.proofs.Checking.{record_offset, record_input}

-- a record that is judged to be refused, or to be accepted
module _ (offset : ℤ) (input : List ℕ) {shift : ℕ} (fine : is_offset offset ≡ true) (by : shift ≡ shift_by offset) where
  first-fault : {o : Option Refusal} → o ≡ first_of (input_faults shift input) → first_of (record_faults offset input) ≡ o
  first-fault h = record_input offset input fine ∙ ap (λ (n : ℕ). first_of (input_faults n input)) (sym by) ∙ sym h

  pub judged-refused : (r : Refusal) → some r ≡ first_of (input_faults shift input) → check offset input ≡ refused r
  judged-refused r h = (check-refused offset input r).1 (first-fault h)

  pub judged-accepted : none ≡ first_of (input_faults shift input) → (e : Element) × (check offset input ≡ answered e)
  judged-accepted h = go (check offset input) refl
    where
      go : (o : Outcome Element) → check offset input ≡ o → (e : Element) × (check offset input ≡ answered e)
      go (answered e) a = (e, a)
      go (refused r) f = let z : ◌≡◌ {A = Option Refusal} none (some r) = sym (first-fault h) ∙ (check-refused offset input r).0 f in clash (cc)

module _ (offset : ℤ) (first second : List ℕ) where
  pub compare_offset : is_offset offset ≡ false → compared_number (refused_first OFFSET) ≡ compare_answer offset first second
  unfolding comparison
  compare_offset e = rw ((check-refused offset first OFFSET).1 (record_offset offset first e))

  pub compare_first : (r : Refusal) → check offset first ≡ refused r → compared_number (refused_first r) ≡ compare_answer offset first second
  unfolding comparison
  compare_first r f = rw f

  module _ (a : Element) (accepted : check offset first ≡ answered a) where
    pub compare_second : (r : Refusal) → check offset second ≡ refused r → compared_number (refused_second r) ≡ compare_answer offset first second
    unfolding comparison
    compare_second r f = rw (accepted, f)

    pub compare_both : (b : Element) → check offset second ≡ answered b → {shift : ℕ} → shift ≡ shift_by offset → {c : Compared}
        → c ≡ compare_checked shift (answered a) (answered b)
        → compared_number c ≡ compare_answer offset first second
    unfolding comparison
    compare_both b f by h = rw (accepted, f, h, by)
