-- What a place says of its attribute.
use Prim.Native.Nat.{ℕ, ◌≤◌, ◌<◌}
use mathlib.Core.Path.{◌≡◌, refl}
use mathlib.Core.Bool.{not}
use mathlib.Core.List.{List}
use mathlib.Core.Option.{Option, none, some}
use native.Mathlib.Omega.{arith}
use borrow.Author.Tests.{ne_eqb}
use lib.Dec.{eqb}
use lib.ListN.{length, drop}
use Rattle.rules.specs.Basics.{is_some}
use Rattle.rules.specs.Parsers.{ok}
use Rattle.rules.specs.Markup.{value}
use Rattle.element.specs.Tags.{Place, nowhere, stands}

-- there is one, or there is none
pub present : {s : List ℕ} {o : Option (List ℕ)} {q : ℕ} → Place s o q → not (eqb q 0) ≡ is_some o
present nowhere = refl
present (stands q e v l h g r) = rw (ne_eqb q 0 (λ z. absurd (omega (arith, l, z))))

pub missing : {s : List ℕ} {o : Option (List ℕ)} {q : ℕ} → Place s o q → eqb q 0 ≡ not (is_some o)
missing nowhere = refl
missing (stands q e v l h g r) = rw (ne_eqb q 0 (λ z. absurd (omega (arith, l, z))))

pub absent : {s : List ℕ} {o : Option (List ℕ)} {q : ℕ} → Place s o q → q ≡ 0 → o ≡ none
absent nowhere z = refl
absent (stands q e v l h g r) z = absurd (omega (arith, l, z))

-- the value that stands there
pub record Standing (s : List ℕ) (o : Option (List ℕ)) (q : ℕ) : Type 0 where
  pub end : ℕ
  pub text : List ℕ
  pub further : q < end
  pub high : end ≤ length s
  pub reads : value (drop q s) ≡ ok text (drop end s)
  pub is : o ≡ some text

pub standing : {s : List ℕ} {o : Option (List ℕ)} {q : ℕ} → Place s o q → (q ≡ 0 → ⊥) → Standing s o q
standing nowhere d = absurd (d refl)
standing (stands q e v l h g r) d = record { end = e; text = v; further = h; high = g; reads = r; is = refl }

-- and it stands up to r, if every value there does
pub standing_to : {s : List ℕ} {o : Option (List ℕ)} {q r : ℕ} → Place s o q → (q ≡ 0 → ⊥)
    → ((v : List ℕ) (e : ℕ) → e ≤ length s → value (drop q s) ≡ ok v (drop e s) → r ≡ e) → (v : List ℕ) × (o ≡ some v) × (value (drop q s) ≡ ok v (drop r s))
standing_to p d ends = let w = standing p d in (w.text, w.is, rw (ends w.text w.end w.high w.reads) w.reads)
