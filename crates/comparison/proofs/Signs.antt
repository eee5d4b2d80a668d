-- Amounts as numbers: signs and magnitudes agree exactly if the numbers are the same. Zero has no sign.
use Prim.Native.Nat.{ℕ, zero, suc}
use mathlib.Core.Path.{◌≡◌, refl, sym, ◌∙◌}
use mathlib.Core.Bool.{Bool, true, false, ◌&&◌, ◌||◌, beq, and_comm, and-true, and-false, and_self}
use native.Mathlib.Omega.{arith}
use borrow.Author.Tests.{leb-true, leb-false, eq-eqb, ne_eqb}
use lib.Dec.{eqb, leb, eqb-zero-suc, eqb-suc-zero, eqb-suc-suc}
use lib.IntN.{pos}
use Rattle.rules.specs.Comparison.{same_amount}
use Rattle.form.specs.Amounts.{sign_of}

both_ways : (a b : ℕ) → eqb a b ≡ (leb a b && leb b a)
both_ways a b = sym (go (leb a b) refl (leb b a) refl)
  where
    go : (p : Bool) → leb a b ≡ p → (q : Bool) → leb b a ≡ q → (p && q) ≡ eqb a b
    go true e true f = sym (eq-eqb a b (omega (arith, leb-true a b e, leb-true b a f)))
    go true e false f = sym (ne_eqb a b (λ z. absurd (omega (arith, leb-false b a f, z))))
    go false e q f = sym (ne_eqb a b (λ z. absurd (omega (arith, leb-false a b e, z))))

pub same_number : (m n : Bool) (x y : ℕ) → (eqb x y && (beq m n || eqb x 0)) ≡ same_amount (sign_of m (pos x)) (sign_of n (pos y))
same_number false false x y = and-true (eqb x y) ∙ both_ways x y
same_number false true x zero = and_self (eqb x 0) ∙ both_ways x 0
same_number false true zero (suc y) = rw (eqb-zero-suc y) refl
same_number false true (suc x) (suc y) = rw (eqb-suc-zero x) (and-false (eqb (suc x) (suc y)))
same_number true false zero y = and-true (eqb 0 y) ∙ both_ways 0 y
same_number true false (suc x) y = rw (eqb-suc-zero x) (and-false (eqb (suc x) y))
same_number true true zero zero = refl
same_number true true zero (suc y) = rw (eqb-zero-suc y) refl
same_number true true (suc x) zero = rw (eqb-suc-zero x) refl
same_number true true (suc x) (suc y) = and-true (eqb (suc x) (suc y)) ∙ eqb-suc-suc x y ∙ both_ways x y ∙ and_comm (leb x y) (leb y x)
