-- An element that is no time says nothing as a bound.
use Prim.Native.Nat.{ℕ}
use mathlib.Core.Path.{◌≡◌, refl}
use mathlib.Core.List.{List}
use Rattle.rules.specs.Markup.{Attribute}
use Rattle.rules.specs.Types.{TS}
use Rattle.rules.proofs.Tests.{clash}
use Rattle.datatype.specs.Meaning.{kind_meant}
use Rattle.datatype.specs.Said.{nothing}
use Rattle.datatype.specs.declared.kind.Kind.{Kind}
use Rattle.datatype.specs.declared.kind.Kind.TheVariants.{Ts, IvlTs, QsuTs, QsiTs, QsdTs, Mo, Ii, Cd, En, DisplayName, Part}
use Rattle.judge.specs.Rows.{said_of}

module _ {P : Type 0} (shift : ℕ) (l : List Attribute) where
  pub no_time : (k : Kind) → (k ≡ Ts → ⊥) → (kind_meant k ≡ TS → P) × (nothing ≡ said_of (kind_meant k) shift l)
  no_time Ts e = absurd (e refl)
  no_time IvlTs e = (λ z. clash (cc), refl)
  no_time QsuTs e = (λ z. clash (cc), refl)
  no_time QsiTs e = (λ z. clash (cc), refl)
  no_time QsdTs e = (λ z. clash (cc), refl)
  no_time Mo e = (λ z. clash (cc), refl)
  no_time Ii e = (λ z. clash (cc), refl)
  no_time Cd e = (λ z. clash (cc), refl)
  no_time En e = (λ z. clash (cc), refl)
  no_time DisplayName e = (λ z. clash (cc), refl)
  no_time Part e = (λ z. clash (cc), refl)
