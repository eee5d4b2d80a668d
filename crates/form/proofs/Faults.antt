-- From the answers on a value to the refusal of its form.
use Prim.Native.Nat.{ℕ, ◌≤◌}
use mathlib.Core.Path.{◌≡◌, sym, ◌∙◌, ap}
use mathlib.Core.Bool.{Bool, true, false, not}
use mathlib.Core.List.{List}
use mathlib.Core.Option.{Option, none, some}
use lib.IntN.{ℤ}
use Rattle.std.specs.Prelude.{Option as StdOption, Some, None, is_some as std_is_some}
use lib.ListN.{length, drop}
use Rattle.std.specs.Prelude.{Result, Ok, Err}
use Rattle.rules.specs.Basics.{is_some, exists}
use Rattle.rules.specs.Refusal.{Refusal as Rule, VALUE, Outcome, faults_of, first_of, ◌when◌}
use Rattle.rules.specs.Parsers.{ok}
use Rattle.rules.specs.Markup.{value}
use Rattle.rules.specs.Timestamp.{Moment}
use Rattle.rules.specs.Forms.{form_faults}
use Rattle.rules.proofs.References.{is_referenced}
use Rattle.refusal.specs.Meaning.{refusal_of}
use Rattle.refusal.specs.declared.Refusal.{Refusal}
use Rattle.timestamp.specs.Moments.{outcome_of}
use Rattle.timestamp.specs.declared.Moment.{Moment as MomentRead}
use Rattle.form.specs.Meaning.{form_of, between}
use Rattle.form.specs.Amounts.{amount_of}
use Rattle.form.specs.declared.Form.{Form}
use Rattle.form.specs.declared.money.Amount.{Amount}
use Rattle.form.proofs.Quoted.{by_raw}

-- the refusal of a form that is a test
pub by_test : {o : Option Rule} {good : Bool} (shift : ℕ) {form : Form} (x : Form) (v : List ℕ) {b : Bool} → o ≡ first_of (VALUE when not good) → form ≡ x
    → good ≡ b → form_faults shift (form_of x) v ≡ (VALUE when not b) → o ≡ first_of (form_faults shift (form_of form) v)
by_test shift x v e z g f = e ∙ rw (z, f, g)

-- of a form that is a test of the bytes between the quotes
pub by_text : (P : List ℕ → Bool) → ((t : List ℕ) → exists is_referenced t ≡ true → P t ≡ false)
    → {o : Option Rule} {good : Bool} (shift : ℕ) {form : Form} (x : Form) (s : List ℕ) (q e : ℕ) {t : List ℕ} → e ≤ length s → t ≡ between s q e
    → o ≡ first_of (VALUE when not good) → form ≡ x → good ≡ P t → ((v : List ℕ) → form_faults shift (form_of x) v ≡ (VALUE when not (P v)))
    → (v : List ℕ) → value (drop q s) ≡ ok v (drop e s) → o ≡ first_of (form_faults shift (form_of form) v)
by_text P n shift x s q e l z k w g f v h = by_test shift x v k w (g ∙ by_raw P n s q e l z v h) (f v)

-- of no form, and of a timestamp
pub by_faults : {o : Option Rule} (shift : ℕ) {form : Form} (x : Form) (v : List ℕ) → o ≡ first_of (form_faults shift (form_of x) v) → form ≡ x
    → o ≡ first_of (form_faults shift (form_of form) v)
by_faults shift x v e z = rw z e

-- an amount, or none
pub amount_found : (a : StdOption Amount) {o : Option ℤ} → amount_of a ≡ o → std_is_some a ≡ is_some o
amount_found (Some a) e = ap is_some e
amount_found None e = ap is_some e

-- a moment, or a refusal passed on
pub moment_found : (t : Result MomentRead Refusal) (m : MomentRead) {o : Outcome Moment} → t ≡ Ok m → outcome_of t ≡ o → none ≡ first_of (faults_of o)
unfolding first_of
moment_found t m z e = ap (λ o. first_of (faults_of o)) (sym (ap outcome_of z) ∙ e)

pub moment_refused : (t : Result MomentRead Refusal) (r : Refusal) {o : Outcome Moment} → t ≡ Err r → outcome_of t ≡ o → some (refusal_of r) ≡ first_of (faults_of o)
unfolding first_of
moment_refused t r z e = ap (λ o. first_of (faults_of o)) (sym (ap outcome_of z) ∙ e)
