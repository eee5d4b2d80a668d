-- The numbers of known names.
use Prim.Native.Nat.{ℕ, zero, suc, ◌+◌, ◌≤◌, ◌<◌}
use mathlib.Core.Path.{◌≡◌, refl, sym, ◌∙◌, ap, subst}
use mathlib.Core.Bool.{Bool, true, false, cond}
use mathlib.Core.List.{List, [], ◌∷◌}
use native.Mathlib.Omega.{arith}
use borrow.Author.Tests.{eqb-true, eqb-false, ne_eqb}
use lib.Dec.{eqb}
use lib.ListN.{length, get_or}
use Rattle.rules.specs.Basics.{bytes, same}
use Rattle.rules.proofs.Tests.{clash, passes, passed, same_true}
use Rattle.element.specs.Names.{known_names, known, name_at, number_from, number_of}

-- each known name has its own number
pub numbered : (n : ℕ) → n < known → number_of (name_at n) ≡ n
unfolding number_from same passes
numbered n h = eqb-true (number_of (name_at n)) n (passed known (λ k. eqb (number_of (name_at k)) k) n refl h)

from_low : (k : ℕ) (t : List ℕ) (l : List (List ℕ)) → k ≤ number_from k t l
unfolding number_from
from_low k t [] = omega arith
from_low k t (m ∷ l) = go (same t m) (from_low (suc k) t l)
  where
    go : (b : Bool) → suc k ≤ number_from (suc k) t l → k ≤ cond b k (number_from (suc k) t l)
    go true h = omega arith
    go false h = omega (arith, h)

among : (k : ℕ) (t : List ℕ) (l : List (List ℕ)) (j : ℕ) → number_from k t l ≡ k + j → j < length l → same t (get_or l j []) ≡ true
unfolding number_from
among k t [] j e h = absurd (omega (arith, h))
among k t (m ∷ l) j e h = go (same t m) refl j e h (among (suc k) t l) (from_low (suc k) t l)
  where
    go : (b : Bool) → same t m ≡ b → (j : ℕ) → cond b k (number_from (suc k) t l) ≡ k + j → j < suc (length l)
        → ((i : ℕ) → number_from (suc k) t l ≡ suc k + i → i < length l → same t (get_or l i []) ≡ true) → suc k ≤ number_from (suc k) t l
        → same t (get_or (m ∷ l) j []) ≡ true
    go true q zero e h below low = q
    go true q (suc j) e h below low = absurd (omega (arith, e))
    go false q zero e h below low = absurd (omega (arith, e, low))
    go false q (suc j) e h below low = below j (omega (arith, e)) (omega (arith, h))

-- a name that has a number is the name of that number
pub number-name : (t : List ℕ) → number_of t < known → same t (name_at (number_of t)) ≡ true
number-name t h = among 0 t known_names (number_of t) (omega arith) h

-- a text is the name of a number exactly if it has that number
pub has-number : (t : List ℕ) (n : ℕ) → n < known → same t (name_at n) ≡ eqb (number_of t) n
has-number t n h = go (same t (name_at n)) (eqb (number_of t) n) refl refl
  where
    go : (a b : Bool) → same t (name_at n) ≡ a → eqb (number_of t) n ≡ b → a ≡ b
    go true true e f = refl
    go false false e f = refl
    go true false e f = absurd (eqb-false (number_of t) n f (ap number_of (same_true t (name_at n) e) ∙ numbered n h))
    go false true e f =
        let z : number_of t ≡ n = eqb-true (number_of t) n f in
        let w : same t (name_at n) ≡ true = subst (λ (k : ℕ). same t (name_at k) ≡ true) z (number-name t (subst (λ (k : ℕ). k < known) (sym z) h)) in
        clash (cc)

-- two known names are the same exactly if their numbers are
pub same_names : (m n : ℕ) → m < known → n < known → same (name_at m) (name_at n) ≡ eqb m n
same_names m n g h = has-number (name_at m) n h ∙ ap (λ (k : ℕ). eqb k n) (numbered m g)

-- the number of a name by its first byte
pub initial : (b : ℕ) → 0 < b → (f : List ℕ → ℕ) → ((t : List ℕ) → f (b ∷ t) ≡ number_of (b ∷ t)) → (n : List ℕ) → get_or n 0 0 ≡ b → f n ≡ number_of n
initial b h f g [] e = absurd (omega (arith, h, e))
initial b h f g (c ∷ t) e = rw e (g t)

-- no known name begins with any other byte
pub no_initial : (n : List ℕ) → (get_or n 0 0 ≡ 118 → ⊥) → (get_or n 0 0 ≡ 110 → ⊥) → (get_or n 0 0 ≡ 120 → ⊥) → (get_or n 0 0 ≡ 108 → ⊥)
    → (get_or n 0 0 ≡ 104 → ⊥) → (get_or n 0 0 ≡ 99 → ⊥) → (get_or n 0 0 ≡ 114 → ⊥) → (get_or n 0 0 ≡ 101 → ⊥) → (get_or n 0 0 ≡ 116 → ⊥)
    → (get_or n 0 0 ≡ 113 → ⊥) → known ≡ number_of n
unfolding number_from same
no_initial [] v n x l h k r e t q = refl
no_initial (c ∷ u) v n x l h k r e t q =
    rw (ne_eqb c 118 v, ne_eqb c 110 n, ne_eqb c 120 x, ne_eqb c 108 l, ne_eqb c 104 h, ne_eqb c 99 k, ne_eqb c 114 r, ne_eqb c 101 e, ne_eqb c 116 t, ne_eqb c 113 q)

-- no text has no number
pub no_name : (n : List ℕ) → length n ≡ 0 → known ≡ number_of n
unfolding number_from same
no_name [] e = refl
no_name (c ∷ u) e = absurd (omega (arith, e))

-- five names, asked one after another
pub five : (t : List ℕ) {a b c d e : ℕ} → e ≡ cond (same t (bytes "codeSystemVersion")) 11 known → d ≡ cond (same t (bytes "codeSystemName")) 10 e
    → c ≡ cond (same t (bytes "codeSystem")) 9 d → b ≡ cond (same t (bytes "code")) 8 c → a ≡ cond (same t (bytes "currency")) 5 b
    → (u : List ℕ) → t ≡ 99 ∷ u → a ≡ number_of t
unfolding number_from same
five t p q r s w u z = rw (w, s, r, q, p, z)

-- a text that begins with c
pub begins_with : (t : List ℕ) {r : ℕ} → ((u : List ℕ) → t ≡ 99 ∷ u → r ≡ number_of t) → get_or t 0 0 ≡ 99 → r ≡ number_of t
begins_with [] h e = absurd (omega (arith, e))
begins_with (c ∷ u) h e = h u (ap (λ (x : ℕ). x ∷ u) e)
