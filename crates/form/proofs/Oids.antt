-- Numbers with no leading zero, and OIDs made of them.
use Prim.Native.Nat.{ℕ, zero, suc, ◌+◌, ◌-◌, ◌≤◌, ◌<◌}
use mathlib.Core.Path.{◌≡◌, refl, sym}
use mathlib.Core.Bool.{Bool, true, false, not, ◌&&◌, ◌||◌, and-true, and-false}
use mathlib.Core.List.{List, [], ◌∷◌}
use native.Mathlib.Nat.{zero-add, pow-le-pow_right}
use native.Mathlib.Omega.{arith}
use borrow.Author.Tests.{eqb-true, eqb-false, leb-true, leb-false, eq-eqb, ne_eqb, le-leb, lt-leb}
use lib.Dec.{leb, eqb}
use lib.ListN.{length, get_or, take, drop}
use lib.Seq.{take_all}
use Rattle.rules.specs.Basics.{every, split, is_digit, decimal}
use Rattle.rules.specs.Parsers.{bad, one}
use Rattle.rules.specs.Forms.{is_plain_number, is_oid, is_root}
use Rattle.rules.proofs.Tests.{clash, both_true, is_from-true, every_true}
use Rattle.rules.proofs.Digits.{decimal-from}
use Rattle.rules.proofs.Unreferenced.{plain_digits, oid_numbers}
use Rattle.text.specs.Numbers.{Counted}
use Rattle.form.specs.Parted.{PartAt}
use Rattle.form.proofs.Parting.{one_part, two-parts}

-- a test that fails where another that follows from it fails
fails : (a b : Bool) → (a ≡ true → b ≡ true) → b ≡ false → a ≡ false
fails true b h e = clash (cc (h refl))
fails false b h e = refl

-- where all bytes pass a test, one stands at each position
every-reads : (p : ℕ → Bool) (l : List ℕ) (k : ℕ) → k < length l → every p l ≡ true → one p (drop k l) ≡ bad → ⊥
unfolding one every
every-reads p [] k h e f = omega arith
every-reads p (c ∷ l) zero h e f = let z = rw (every_true p c l e).0 at f in clash (cc)
every-reads p (c ∷ l) (suc k) h e f = every-reads p l k (omega arith) (every_true p c l e).1 f

pub number-none : (n : List ℕ) → length n ≡ 0 → false ≡ is_plain_number n
unfolding is_plain_number
number-none [] h = refl
number-none (c ∷ n) h = absurd (omega arith)

not-zero : (c : ℕ) → 48 ≤ c → not (eqb c 48) ≡ leb 49 c
not-zero c l = go (eqb c 48) refl
  where
    go : (b : Bool) → eqb c 48 ≡ b → not b ≡ leb 49 c
    go true e = let z : c ≡ 48 = eqb-true c 48 e in sym (lt-leb 49 c (omega arith))
    go false e = let z : c ≡ 48 → ⊥ = eqb-false c 48 e in sym (le-leb 49 c (omega arith))

one_digit : (n : List ℕ) → length n ≡ 1 → every is_digit n ≡ true → true ≡ is_plain_number n
unfolding is_plain_number
one_digit [] l e = absurd (omega arith)
one_digit (c ∷ []) l e = sym (every_true is_digit c [] e).0
one_digit (c ∷ d ∷ n) l e = absurd (omega arith)

more_digits : (n : List ℕ) → (length n ≡ 0 → ⊥) → (length n ≡ 1 → ⊥) → every is_digit n ≡ true → not (eqb (get_or n 0 0) 48) ≡ is_plain_number n
unfolding is_plain_number
more_digits [] z o e = absurd (z refl)
more_digits (c ∷ []) z o e = absurd (o refl)
more_digits (c ∷ d ∷ n) z o e =
    let (f, g) = every_true is_digit c (d ∷ n) e in
    let (l, u) = is_from-true 48 57 c f in
    rw (g, le-leb c 57 u, and-true (leb 49 c), and-true (leb 49 c)) (not-zero c l)

module _ (n : List ℕ) (k : ℕ) (c : Counted n 0 (length n) k) where
  pub number-other : k < length n → false ≡ is_plain_number n
  number-other h = go (is_plain_number n) refl
    where
      go : (b : Bool) → is_plain_number n ≡ b → false ≡ b
      go true e = absurd (every-reads is_digit n k h (plain_digits n e) (rw (zero-add k) at (c.stop h)))
      go false e = refl

  all_digits : length n ≤ k → every is_digit n ≡ true
  all_digits h = rw (take_all k n h) at c.digits

  pub number-one : length n ≤ k → length n ≡ 1 → true ≡ is_plain_number n
  number-one h l = one_digit n l (all_digits h)

  pub number_more : length n ≤ k → (length n ≡ 0 → ⊥) → (length n ≡ 1 → ⊥) → not (eqb (get_or n 0 0) 48) ≡ is_plain_number n
  number_more h z o = more_digits n z o (all_digits h)

-- a number of three digits or more is 100 or more
long-number : (n : List ℕ) → is_plain_number n ≡ true → 2 < length n → 100 ≤ decimal n
unfolding is_plain_number
long-number [] e h = absurd (omega arith)
long-number (c ∷ []) e h = absurd (omega arith)
long-number (c ∷ d ∷ n) e h =
    let (l, u) = is_from-true 49 57 c (both_true _ _ e).0 in
    omega (arith, decimal-from c (d ∷ n) l, pow-le-pow_right {n = 10} (omega arith) {i = 2} {j = length (d ∷ n)} (omega arith))

pub at-most-long : (n : List ℕ) (most : ℕ) → is_plain_number n ≡ true → most < 100 → 2 < length n → false ≡ leb (decimal n) most
at-most-long n most e l h = sym (lt-leb (decimal n) most (omega (arith, long-number n e h)))

pub take-digits : (n : List ℕ) → is_plain_number n ≡ true → every is_digit (take (length n) n) ≡ true
take-digits n e = rw (take_all (length n) n (omega arith)) (plain_digits n e)

pub at-most-is : (n : List ℕ) (most r : ℕ) → r ≡ decimal (take (length n) n) → leb r most ≡ leb (decimal n) most
at-most-is n most r e = rw (e, take_all (length n) n (omega arith))

-- the first 0 to 2, the second at most 39 under 0 and 1
module _ (a b : ℕ) where
  pub lead_over : leb a 2 ≡ false → false ≡ (leb a 2 && (eqb a 2 || leb b 39))
  lead_over e = rw e

  pub lead_under : leb a 1 ≡ true → leb b 39 ≡ (leb a 2 && (eqb a 2 || leb b 39))
  lead_under e = let l : a ≤ 1 = leb-true a 1 e in rw (le-leb a 2 (omega arith), ne_eqb a 2 (λ z. omega arith))

  pub lead-two : leb a 2 ≡ true → leb a 1 ≡ false → true ≡ (leb a 2 && (eqb a 2 || leb b 39))
  lead-two e f =
      let l : a ≤ 2 = leb-true a 2 e in
      let h : 1 < a = leb-false a 1 f in
      rw (e, eq-eqb a 2 (omega arith))

-- an OID
pub root-long : (t : List ℕ) → 128 < length t → false ≡ is_root t
unfolding is_root
root-long t h = rw (lt-leb (length t) 128 h)

pub root-other : (t : List ℕ) → every is_plain_number (split 46 t) ≡ false → false ≡ is_root t
unfolding is_root
root-other t e = rw (fails (is_oid (split 46 t)) _ (oid_numbers (split 46 t)) e) (sym (and-false (leb (length t) 128)))

pub root-one : (t : List ℕ) (i : ℕ) → PartAt 46 t 0 i → i ≡ length t → false ≡ is_root t
unfolding is_root is_oid
root-one t i p l = rw (one_part 46 t i p l) (sym (and-false (leb (length t) 128)))

-- its first two numbers
abbrev first : List ℕ → (i : ℕ) → List ℕ
first t i = take (i - 0) t

abbrev second : List ℕ → (i e : ℕ) → List ℕ
second t i e = take (e - (i + 1)) (drop (i + 1) t)

module _ (t : List ℕ) (i e : ℕ) (n : every is_plain_number (split 46 t) ≡ true) (p : PartAt 46 t 0 i) (l : i < length t) (q : PartAt 46 t (i + 1) e) where
  pub root-numbers : (is_plain_number (first t i) ≡ true) × (is_plain_number (second t i e) ≡ true)
  root-numbers =
      let (f, g) = every_true is_plain_number (first t i) _ (rw (two-parts 46 t i e p l q) at n) in
      (f, (every_true is_plain_number (second t i e) _ g).0)

  pub root-two : length t ≤ 128 → (leb (decimal (first t i)) 2 && (eqb (decimal (first t i)) 2 || leb (decimal (second t i e)) 39)) ≡ is_root t
  unfolding is_root is_oid
  root-two h =
      let m = rw (two-parts 46 t i e p l q) at n in
      rw (le-leb (length t) 128 h, two-parts 46 t i e p l q, m)
