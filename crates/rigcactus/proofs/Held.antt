-- What a checked record is held as, where it is accepted, and where only its type matters.
use Prim.Native.Nat.{ℕ}
use mathlib.Core.Path.{◌≡◌, refl, sym, ◌∙◌, ap}
use mathlib.Core.Bool.{Bool, true, false, not}
use mathlib.Core.List.{List, [], ◌∷◌, ◌++◌}
use mathlib.Core.Logic.{◌⊎◌, inl, inr}
use mathlib.Core.Option.{Option, none, some}
use borrow.Author.Tests.{not-false}
use lib.IntN.{ℤ}
use Rattle.rules.specs.Refusal.{Refusal, OFFSET, TOO_LONG, NOT_UTF_8, TYPE, rank_in, earlier, first_of, answered, faults_in, ◌when◌}
use Rattle.rules.specs.Markup.{Element, document}
use Rattle.rules.specs.Types.{Kind, all_types, type_among}
use Rattle.rules.specs.Judge.{element_faults, top_faults}
use Rattle.rules.specs.Utf8.{is_utf8}
use Rattle.rules.specs.Check.{is_offset, shift_by, is_too_long, element_of, record_faults, check}
use Rattle.rules.proofs.Tests.{clash}
use Rattle.rules.proofs.Precedence.{earlier_assoc, earlier_comm, check-answered}
use Rattle.datatype.specs.Records.{RecordOf}
use Rattle.judge.specs.Faults.{input_faults}
use Rattle.judge.specs.Checks.{CheckedAs}
use Rattle.judge.specs.declared.Checked.{Checked}
use Rattle.rigcactus.specs.Faults.{AllowedAs}

none_of : (a b : List Refusal) → (a ++ b) ≡ [] → (a ≡ []) × (b ≡ [])
none_of [] b e = (refl, e)
none_of (r ∷ a) b e = clash (cc)

not_so : (r : Refusal) (b : Bool) → (r when b) ≡ [] → b ≡ false
not_so r true e = clash (cc)
not_so r false e = refl

module _ {shift : ℕ} {input : List ℕ} (r : Checked) (h : CheckedAs input shift r) where
  -- a record that is accepted
  pub accepted-held : (offset : ℤ) (e : Element) → check offset input ≡ answered e → RecordOf input e r.«record»
  unfolding record_faults element_faults
  accepted-held offset e a =
      let (d, n) = (check-answered offset input e).0 a in
      let (n₁, n₂) = none_of (OFFSET when not (is_offset offset) ++ TOO_LONG when is_too_long input ++ NOT_UTF_8 when not (is_utf8 input)) (faults_in (top_faults (shift_by offset)) (element_of input)) n in
      let (n₃, n₄) = none_of (OFFSET when not (is_offset offset) ++ TOO_LONG when is_too_long input) (NOT_UTF_8 when not (is_utf8 input)) n₁ in
      let (n₅, n₆) = none_of (OFFSET when not (is_offset offset)) (TOO_LONG when is_too_long input) n₃ in
      go (type_among all_types e.attrs) refl (not_so TOO_LONG (is_too_long input) n₆) (not-false (is_utf8 input) (not_so NOT_UTF_8 (not (is_utf8 input)) n₄)) d (rw d at n₂)
    where
      go : (k : Option Kind) → type_among all_types e.attrs ≡ k → is_too_long input ≡ false → is_utf8 input ≡ true → document input ≡ some e → top_faults (shift_by offset) e ≡ [] → RecordOf input e r.«record»
      go none t p q d n = let z = rw t at n in clash (cc)
      go (some k) t p q d n = h.held e k p q d t

  -- a fault at TYPE or before
  abbrev Typeless : Option Refusal → Type 0
  Typeless o = earlier o (some TYPE) ≡ o

  before : (q : Refusal) (o : Option Refusal) → earlier (some q) (some TYPE) ≡ some q → Typeless (earlier (some q) o)
  before q o e = earlier_assoc (some q) o (some TYPE) ∙ ap (earlier (some q)) (earlier_comm o (some TYPE)) ∙ sym (earlier_assoc (some q) (some TYPE) o) ∙ ap (λ (x : Option Refusal). earlier x o) e

  -- a document that is held, or refused for its type or for what comes before
  pub held-or_typeless : (e : Element) → document input ≡ some e → RecordOf input e r.«record» ⊎ Typeless (first_of (input_faults shift input))
  unfolding first_of rank_in element_faults
  held-or_typeless e d = long (is_too_long input) refl
    where
      typed : (k : Option Kind) → type_among all_types e.attrs ≡ k → is_too_long input ≡ false → is_utf8 input ≡ true → RecordOf input e r.«record» ⊎ Typeless (first_of (input_faults shift input))
      typed none t p q = inr (rw (p, q, d, t))
      typed (some k) t p q = inl (h.held e k p q d t)

      whole : (b : Bool) → is_utf8 input ≡ b → is_too_long input ≡ false → RecordOf input e r.«record» ⊎ Typeless (first_of (input_faults shift input))
      whole false q p = inr (rw (p, q) (before NOT_UTF_8 (first_of (faults_in (top_faults shift) (element_of input))) refl))
      whole true q p = typed (type_among all_types e.attrs) refl p q

      long : (b : Bool) → is_too_long input ≡ b → RecordOf input e r.«record» ⊎ Typeless (first_of (input_faults shift input))
      long true p = inr (rw p (before TOO_LONG (first_of (NOT_UTF_8 when not (is_utf8 input) ++ faults_in (top_faults shift) (element_of input))) refl))
      long false p = whole (is_utf8 input) refl p

  -- whether its type is allowed
  pub allowed_or_typeless : (may : Element → Bool) {b : Bool} → AllowedAs r b may → (e : Element) → document input ≡ some e → (b ≡ may e) ⊎ Typeless (first_of (input_faults shift input))
  allowed_or_typeless may told e d = elim (held-or_typeless e d) [
    | inl x ↦ inl (told input e x)
    | inr x ↦ inr x
  ]
