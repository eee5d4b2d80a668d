-- Absence is equal only to absence.
use Prim.Native.Nat.{ℕ}
use mathlib.Core.Path.{◌≡◌, refl, sym, ◌∙◌, ap}
use mathlib.Core.Bool.{Bool, false, not, not-not}
use mathlib.Core.List.{List}
use mathlib.Core.Option.{Option, none, some}
use native.Mathlib.Omega.{arith}
use borrow.Author.Tests.{ne_eqb}
use lib.Dec.{eqb}
use Rattle.std.specs.Prelude.{Option as StdOption, Some, None, is_some as std_is_some}
use Rattle.rules.specs.Basics.{is_some}
use Rattle.rules.specs.Comparison.{same_option}
use Rattle.form.specs.Amounts.{amount_of}
use Rattle.form.specs.declared.money.Amount.{Amount}
use Rattle.element.specs.Tags.{Place, nowhere, stands}

-- no value stands at 0
pub lacks : {s : List ℕ} {o : Option (List ℕ)} {q : ℕ} → Place s o q → eqb q 0 ≡ not (is_some o)
lacks nowhere = refl
lacks (stands q e v l h g r) = ne_eqb q 0 (λ z. absurd (omega (arith, l, z)))

-- no amount is read
pub no_amount : (a : StdOption Amount) {r : Bool} → std_is_some a ≡ not r → r ≡ not (is_some (amount_of a))
no_amount (Some a) {r} e = sym (not-not r) ∙ ap not (sym e)
no_amount None {r} e = sym (not-not r) ∙ ap not (sym e)

module _ {A : Type 0} (test : A → A → Bool) where
  pub left_absent : {o : Option A} {r : Bool} (p : Option A) → o ≡ none → r ≡ not (is_some p) → r ≡ same_option test o p
  left_absent p z e = e ∙ rw z (go p)
    where
      go : (p : Option A) → not (is_some p) ≡ same_option test none p
      go none = refl
      go (some a) = refl

  pub right_absent : {o p : Option A} {a : A} → o ≡ some a → p ≡ none → false ≡ same_option test o p
  right_absent z e = rw (z, e)

  pub both-present : {o p : Option A} {a b : A} {r : Bool} → o ≡ some a → p ≡ some b → r ≡ test a b → r ≡ same_option test o p
  both-present z y e = rw (z, y) e

  pub carried : {o p o' p' : Option A} {r : Bool} → r ≡ same_option test o p → o ≡ o' → p ≡ p' → r ≡ same_option test o' p'
  carried e z y = e ∙ rw (z, y)
