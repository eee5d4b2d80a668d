-- The first fault of a record that is to be of some types.
use Prim.Native.Nat.{ℕ}
use mathlib.Core.Path.{◌≡◌, refl, sym, ◌∙◌, ap}
use mathlib.Core.Bool.{Bool, true, false, not}
use mathlib.Core.List.{List, [], ◌∷◌, ◌++◌}
use mathlib.Core.Logic.{◌⊎◌, inl, inr}
use mathlib.Core.Option.{Option, none, some}
use lib.IntN.{ℤ}
use Rattle.rules.specs.Basics.{if_some}
use Rattle.rules.specs.Refusal.{Refusal, TOO_LONG, NOT_UTF_8, MARKUP, TYPE, rank_in, earlier, first_of, Outcome, answered, refused, faults_in, ◌when◌}
use Rattle.rules.specs.Markup.{Element, document}
use Rattle.rules.specs.Utf8.{is_utf8}
use Rattle.rules.specs.Check.{is_offset, shift_by, is_too_long, element_of, record_faults, check}
use Rattle.rules.proofs.Tests.{clash}
use Rattle.rules.proofs.Precedence.{first_of-append, earlier_assoc, earlier-none_right, check-refused, check-answered}
use Rattle.judge.specs.Faults.{input_faults}
use Rattle.rigcactus.specs.Faults.{typed_faults}
use Rattle.rigcactus.proofs.Checking.{record_input}

-- the first fault of what is to be of some types, from the first as a record and from whether its type is allowed
module _ (may : Element → Bool) (shift : ℕ) (input : List ℕ) {b : Bool} {x : Option Refusal} (told : (e : Element) → document input ≡ some e → (b ≡ may e) ⊎ (earlier (first_of (input_faults shift input)) (some TYPE) ≡ first_of (input_faults shift input)))
    (fault : x ≡ first_of (input_faults shift input)) where
  abbrev first : Option Refusal
  first = first_of (input_faults shift input)

  -- with MARKUP once more, and with TYPE where the type is not allowed
  no_document : document input ≡ none → (q : Refusal) → earlier (some MARKUP) (some q) ≡ some MARKUP → earlier first (some q) ≡ first
  unfolding first_of
  no_document d q h =
      rw (d, first_of-append (TOO_LONG when is_too_long input ++ NOT_UTF_8 when not (is_utf8 input)) (MARKUP ∷ []))
      (earlier_assoc (first_of (TOO_LONG when is_too_long input ++ NOT_UTF_8 when not (is_utf8 input))) (some MARKUP) (some q) ∙ ap (earlier (first_of (TOO_LONG when is_too_long input ++ NOT_UTF_8 when not (is_utf8 input)))) h)

  typeless : (c : Bool) → earlier first (some TYPE) ≡ first → earlier first (first_of (TYPE when c)) ≡ first
  unfolding first_of
  typeless true h = h
  typeless false h = earlier-none_right first

  pub fault_allowed : b ≡ true → x ≡ first_of (typed_faults may shift input)
  unfolding first_of rank_in
  fault_allowed t = fault ∙ sym (first_of-append (input_faults shift input) _ ∙ go (document input) refl)
    where
      go : (o : Option Element) → document input ≡ o → earlier first (first_of (faults_in (λ e. TYPE when not (may e)) (if_some o answered (refused MARKUP)))) ≡ first
      go none d = no_document d MARKUP refl
      go (some e) d = elim (told e d) [
        | inl w ↦ rw (sym w ∙ t) (earlier-none_right first)
        | inr w ↦ typeless (not (may e)) w
      ]

  pub fault-other : b ≡ false → {y : Option Refusal} → y ≡ earlier x (some TYPE) → y ≡ first_of (typed_faults may shift input)
  unfolding first_of rank_in
  fault-other t {y} h = h ∙ ap (λ (z : Option Refusal). earlier z (some TYPE)) fault ∙ sym (first_of-append (input_faults shift input) _ ∙ go (document input) refl)
    where
      go : (o : Option Element) → document input ≡ o → earlier first (first_of (faults_in (λ e. TYPE when not (may e)) (if_some o answered (refused MARKUP)))) ≡ earlier first (some TYPE)
      go none d = no_document d MARKUP refl ∙ sym (no_document d TYPE refl)
      go (some e) d = elim (told e d) [
        | inl w ↦ rw (sym w ∙ t)
        | inr w ↦ typeless (not (may e)) w ∙ sym w
      ]

-- with an agreed offset in range
module _ (may : Element → Bool) (offset : ℤ) (input : List ℕ) {shift : ℕ} (fine : is_offset offset ≡ true) (by : shift ≡ shift_by offset) where
  pub split : {o : Option Refusal} → o ≡ first_of (typed_faults may shift input)
      → o ≡ earlier (first_of (record_faults offset input)) (first_of (faults_in (λ e. TYPE when not (may e)) (element_of input)))
  split h = h ∙ first_of-append (input_faults shift input) _ ∙ rw (by, ← record_input offset input fine)

  -- a record that is accepted has no fault but for its type
  pub type-fault : (e : Element) → check offset input ≡ answered e → {o : Option Refusal} → o ≡ first_of (typed_faults may shift input) → o ≡ first_of (TYPE when not (may e))
  unfolding first_of
  type-fault e a h = let (d, n) = (check-answered offset input e).0 a in split h ∙ rw (n, d)

  -- without a fault it is accepted, and its type allowed
  pub typed-accepted : none ≡ first_of (typed_faults may shift input) → (e : Element) × (check offset input ≡ answered e) × (may e ≡ true)
  unfolding first_of
  typed-accepted h = go (check offset input) refl
    where
      some-earlier : (q : Refusal) (o : Option Refusal) → {A : Type 0} → none ≡ earlier (some q) o → A
      some-earlier q none z = clash (cc)
      some-earlier q (some p) z = clash (cc)

      typed : (b : Bool) → none ≡ first_of (TYPE when not b) → b ≡ true
      typed true z = refl
      typed false z = clash (cc)

      go : (o : Outcome Element) → check offset input ≡ o → (e : Element) × (check offset input ≡ answered e) × (may e ≡ true)
      go (refused q) f = some-earlier q (first_of (faults_in (λ e. TYPE when not (may e)) (element_of input))) (split h ∙ rw ((check-refused offset input q).0 f))
      go (answered e) a = (e, a, typed (may e) (type-fault e a h))
