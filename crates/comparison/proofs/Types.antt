-- The comparer of two records, by their types.
use Prim.Native.Nat.{ℕ}
use mathlib.Core.Path.{◌≡◌, refl, ◌∙◌}
use mathlib.Core.Bool.{Bool, true, false, ◌||◌}
use mathlib.Core.Option.{Option, none, some}
use Rattle.rules.specs.Basics.{if_some}
use Rattle.rules.specs.Refusal.{TYPE, answered}
use Rattle.rules.specs.Markup.{Element}
use Rattle.rules.specs.Invariants.{is_null}
use Rattle.rules.specs.Types.{Kind, all_types, has_type, type_among}
use Rattle.rules.specs.Comparison.{Comparer, comparer_of, comparer_for, or_unknown}
use Rattle.rules.specs.Services.{Compared, compared, refused_second, compare_checked}
use Rattle.comparison.specs.Meaning.{unknown_if}

module _ (shift : ℕ) (v w : Element) {k : Kind} (e : type_among all_types v.attrs ≡ some k) where
  pub types_differ : has_type w.attrs k ≡ false → refused_second TYPE ≡ compare_checked shift (answered v) (answered w)
  unfolding comparer_for
  types_differ h = rw (e, h)

  pub types_same : {c o : Compared} {b : Bool} → has_type w.attrs k ≡ true → b ≡ (is_null v.attrs || is_null w.attrs)
      → c ≡ if_some (comparer_of k) (λ f. compared (f shift v w)) (refused_second TYPE) → o ≡ unknown_if b c
      → o ≡ compare_checked shift (answered v) (answered w)
  unfolding comparer_for
  types_same h n d q = q ∙ rw (e, h, d, n) (go (comparer_of k))
    where
      go : (f : Option Comparer) → unknown_if (is_null v.attrs || is_null w.attrs) (if_some f (λ f. compared (f shift v w)) (refused_second TYPE))
          ≡ if_some f (λ f. compared (or_unknown f shift v w)) (refused_second TYPE)
      go none = refl
      go (some f) = refl
