-- What is said of the bytes between a value's quotes is said of its decoded text, if a text with a byte that references stand for is refused.
use Prim.Native.Nat.{ℕ, ◌+◌, ◌-◌, ◌≤◌}
use mathlib.Core.Path.{◌≡◌, ◌∙◌, ap}
use mathlib.Core.Bool.{true}
use mathlib.Core.List.{List}
use native.Mathlib.Omega.{arith}
use lib.ListN.{length, take, drop}
use Rattle.rules.specs.Basics.{exists}
use Rattle.rules.specs.Parsers.{ok}
use Rattle.rules.specs.Markup.{value}
use Rattle.rules.proofs.References.{is_referenced, raw_agrees, value-between}
use Rattle.form.specs.Meaning.{between}

pub by_raw : {A : Type 0} (P : List ℕ → A) {no : A} → ((t : List ℕ) → exists is_referenced t ≡ true → P t ≡ no)
    → (s : List ℕ) (q e : ℕ) {t : List ℕ} → e ≤ length s → t ≡ between s q e → (v : List ℕ) → value (drop q s) ≡ ok v (drop e s) → P t ≡ P v
by_raw P h s q e l z v k = ap P z ∙ raw_agrees P h (value-between s q e l k).1

-- one byte is no value: nothing is between its quotes
pub between_none : (s : List ℕ) (q e : ℕ) → e ≡ q + 1 → take (q + 1 - (q + 1)) (drop (q + 1) s) ≡ between s q e
between_none s q e z = let n : q + 1 - (q + 1) ≡ e - 1 - (q + 1) = omega arith in ap (λ k. take k (drop (q + 1) s)) n
