-- What tests that came out true say; and what follows from a contradiction.
use Prim.Native.Nat.{ℕ, zero, suc, ◌≤◌, ◌<◌}
use mathlib.Core.Path.{◌≡◌, refl, sym}
use mathlib.Core.Bool.{Bool, true, false, ◌&&◌, ◌||◌, cond, and-eq-true_iff}
use mathlib.Core.List.{List, [], ◌∷◌, ◌++◌}
use mathlib.Core.Option.{some}
use native.Mathlib.Omega.{arith}
use native.Mathlib.Decide.{dec_le}
use borrow.Author.Tests.{leb-true, eqb-true, eqb-false, eq-eqb, ne_eqb}
use lib.Dec.{eqb}
use Rattle.rules.specs.Basics.{find, every, same, is_from}

-- two constructors are never one: hand it `(cc)`
pub clash {ℓ} : {A : Type ℓ} → ◌≡◌ {A = ℕ} 0 1 → A
clash z = absurd (omega arith)

pub both_true : (a b : Bool) → (a && b) ≡ true → (a ≡ true) × (b ≡ true)
both_true a b = (and-eq-true_iff a b).0

pub neither : (a b : Bool) → (a || b) ≡ false → (a ≡ false) × (b ≡ false)
neither true b e = clash (cc)
neither false b e = (refl, e)

pub is_from-true : (low high c : ℕ) → is_from low high c ≡ true → (low ≤ c) × (c ≤ high)
is_from-true low high c e = let (f, g) = both_true _ _ e in (leb-true low c f, leb-true c high g)

pub every_true : {A : Type 0} (p : A → Bool) (a : A) (l : List A) → every p (a ∷ l) ≡ true → (p a ≡ true) × (every p l ≡ true)
unfolding every
every_true p a l = both_true (p a) (every p l)

pub every_append : {A : Type 0} (p : A → Bool) (a b : List A) → every p a ≡ true → every p b ≡ true → every p (a ++ b) ≡ true
unfolding every
every_append p [] b h k = k
every_append p (c ∷ a) b h k = let (f, g) = every_true p c a h in rw (f, every_append p a b g k)

pub every_map : {A : Type 0} (p q : A → Bool) → ((a : A) → p a ≡ true → q a ≡ true) → (l : List A) → every p l ≡ true → every q l ≡ true
unfolding every
every_map p q f [] h = refl
every_map p q f (a ∷ l) h = let (g, i) = every_true p a l h in rw (f a g, every_map p q f l i)

-- a test that is computed at every number below n
unfoldable pub passes : ℕ → (ℕ → Bool) → Bool
passes zero test = true
passes (suc n) test = test n && passes n test

pub passed : (n : ℕ) (test : ℕ → Bool) (k : ℕ) → passes n test ≡ true → k < n → test k ≡ true
unfolding passes
passed zero test k e h = absurd (omega arith)
passed (suc n) test k e h = go (dec_le n k) (both_true (test n) (passes n test) e) (passed n test k)
  where
    go : Dec (n ≤ k) → (test n ≡ true) × (passes n test ≡ true) → (passes n test ≡ true → k < n → test k ≡ true) → test k ≡ true
    go (yes l) p below = let z : k ≡ n = omega arith in rw z p.0
    go (no l) p below = below p.1 (omega arith)

-- one that is found passes the test, and any that all of the list pass
pub found : {A : Type 0} (p q : A → Bool) (l : List A) (a : A) → every q l ≡ true → find p l ≡ some a → (p a ≡ true) × (q a ≡ true)
unfolding find every
found p q [] a h e = clash (cc)
found p q (b ∷ l) a h e = let (f, g) = both_true (q b) (every q l) h in go (p b) refl f e (found p q l a g)
  where
    go : (t : Bool) → p b ≡ t → q b ≡ true → cond t (some b) (find p l) ≡ some a → (find p l ≡ some a → (p a ≡ true) × (q a ≡ true)) → (p a ≡ true) × (q a ≡ true)
    go true d f e below = let z : a ≡ b = cc in (rw z d, rw z f)
    go false d f e below = below e

-- `same` is equality
pub eqb_refl : (a : ℕ) → eqb a a ≡ true
eqb_refl a = eq-eqb a a refl

pub eqb_sym : (a b : ℕ) → eqb a b ≡ eqb b a
eqb_sym a b = go (eqb a b) refl
  where
    go : (x : Bool) → eqb a b ≡ x → x ≡ eqb b a
    go true e = sym (eq-eqb b a (sym (eqb-true a b e)))
    go false e = sym (ne_eqb b a (λ z. eqb-false a b e (sym z)))

pub same_true : (a b : List ℕ) → same a b ≡ true → a ≡ b
unfolding same
same_true [] [] e = refl
same_true [] (d ∷ b) e = clash (cc)
same_true (c ∷ a) [] e = clash (cc)
same_true (c ∷ a) (d ∷ b) e = let (f, g) = both_true (eqb c d) (same a b) e in cc (eqb-true c d f, same_true a b g)

pub same_refl : (a : List ℕ) → same a a ≡ true
unfolding same
same_refl [] = refl
same_refl (c ∷ a) = rw (eqb_refl c, same_refl a)

pub same_sym : (a b : List ℕ) → same a b ≡ same b a
unfolding same
same_sym [] [] = refl
same_sym [] (d ∷ b) = refl
same_sym (c ∷ a) [] = refl
same_sym (c ∷ a) (d ∷ b) = rw (eqb_sym c d, same_sym a b)
