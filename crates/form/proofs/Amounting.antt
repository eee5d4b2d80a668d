-- Amounts of money: the sign, the digits, the fraction, and the whole text; and currencies.
use Prim.Native.Nat.{ℕ, ◌+◌, ◌*◌, ◌^◌, ◌<◌}
use mathlib.Core.Path.{◌≡◌, ap}
use mathlib.Core.Bool.{true, false, ◌&&◌, and-true, and_assoc}
use mathlib.Core.List.{List, [], ◌∷◌}
use mathlib.Core.Option.{none, some}
use native.Mathlib.Nat.{pow-le-pow_right, lt_of_lt_of_le}
use native.Mathlib.Omega.{arith}
use borrow.Author.Tests.{eqb-true, ne_eqb}
use lib.Dec.{eqb}
use lib.IntN.{pos}
use lib.ListN.{length, get_or, take, drop, length-drop, drop_of_length-le}
use lib.Seq.{length-take-le}
use Rattle.rules.specs.Basics.{exists, every, is_from, is_digit, decimal}
use Rattle.rules.specs.Parsers.{bad, ok, one, up_to, byte, finish, whole}
use Rattle.rules.specs.Timestamp.{ten_thousandths}
use Rattle.rules.specs.Forms.{amount_text, is_currency}
use Rattle.rules.specs.LentLists.{unsigned}
use Rattle.rules.specs.TotalNumbers.{currency_number}
use Rattle.rules.proofs.Tests.{both_true}
use Rattle.rules.proofs.References.{is_referenced}
use Rattle.rules.proofs.Unreferenced.{no_currency}
use Rattle.rules.proofs.Parsers.{more_ok, more, done}
use Rattle.text.specs.Numbers.{Counted, FractionAt}
use Rattle.text.specs.declared.digits.Fraction.{Fraction}
use Rattle.text.proofs.Reading.{here}
use Rattle.text.proofs.Numerals.{none-at-end, byte_at, no_byte, no_digit_counted, counted-up_to, decimal-first}
use Rattle.form.specs.Amounts.{sign_of, code_of, SignAt}

-- the sign
pub sign_none : (t : List ℕ) → byte 45 t ≡ bad → SignAt t 0
sign_none t e = record { high = omega arith; few = omega arith; reads = rw e }

pub sign_end : (t : List ℕ) → length t ≡ 0 → SignAt t 0
sign_end t h = sign_none t (none-at-end (λ c. eqb c 45) t 0 (omega arith))

pub sign_other : (t : List ℕ) → (length t ≡ 0 → ⊥) → (get_or t 0 0 ≡ 45 → ⊥) → SignAt t 0
sign_other t h e = sign_none t (no_byte 45 t 0 (omega arith) e)

pub sign_minus : (t : List ℕ) → (length t ≡ 0 → ⊥) → get_or t 0 0 ≡ 45 → SignAt t 1
sign_minus t h e = record { high = omega arith; few = omega arith; reads = rw (byte_at 45 t 0 (omega arith) e) }

-- the whole text
module _ (t : List ℕ) (at : ℕ) (g : SignAt t at) (n : ℕ) (c : Counted t at 12 n) where
  pub amount-none : n ≡ 0 → none ≡ whole amount_text t
  unfolding amount_text
  amount-none e = rw (g.reads, no_digit_counted t at 12 n c e (omega arith))

  abbrev written : List ℕ
  written = take n (drop at t)

  -- a digit and those after it
  first_digit : (n ≡ 0 → ⊥) → (d : ℕ) × (u : List ℕ) × (ds : List ℕ) × (one is_digit (drop at t) ≡ ok d u) × (up_to 11 is_digit u ≡ ok ds (drop (at + n) t)) × (d ∷ ds ≡ written)
  unfolding up_to
  first_digit h = elim (more_ok (one is_digit (drop at t)) (up_to 11 is_digit) (drop at t) (counted-up_to t at 12 n c)) [
    | more d u ds e f z ↦ (d, u, ds, e, f, z)
    | done z ↦ absurd (omega (arith, ap length z, length-take-le n (drop at t) (rw length-drop (omega (arith, c.high)))))
  ]

  module _ (h : n ≡ 0 → ⊥) (f : Fraction) (k : FractionAt t (at + n) f) where
    read-amount : amount_text t ≡ ok (sign_of (eqb at 1) (pos (decimal written * 10_000 + ten_thousandths k.list))) (drop f.end t)
    unfolding amount_text
    read-amount = let (d, u, ds, a, b, z) = first_digit h in rw (g.reads, a, b, k.reads, z)

    pub amount_longer : (f.end ≡ length t → ⊥) → none ≡ whole amount_text t
    unfolding finish
    amount_longer l = rw (read-amount, here t f.end (omega (arith, k.high)))

    pub amount-is : (v : ℕ) → v ≡ decimal written → f.end ≡ length t → some (sign_of (eqb at 1) (pos (v * 10_000 + f.value))) ≡ whole amount_text t
    unfolding finish
    amount-is v e l = rw (read-amount, drop_of_length-le t {i = f.end} (omega arith), e, k.value)

  -- 12 digits
  pub units_small : (v : ℕ) → v ≡ decimal written → v < 10 ^ 12
  units_small v e = rw e (lt_of_lt_of_le (decimal-first t at n c.high c.digits n (omega arith)) (pow-le-pow_right {n = 10} (omega arith) {i = n} {j = 12} c.few))

-- three capitals
pub currency-other : (t : List ℕ) → (length t ≡ 3 → ⊥) → false ≡ is_currency t
currency-other t h = rw (ne_eqb (length t) 3 h)

pub currency-three : (t : List ℕ) → length t ≡ 3
    → (is_from 65 90 (get_or t 0 0) && is_from 65 90 (get_or t 1 0) && is_from 65 90 (get_or t 2 0)) ≡ is_currency t
unfolding every
currency-three [] h = absurd (omega arith)
currency-three (a ∷ []) h = absurd (omega arith)
currency-three (a ∷ b ∷ []) h = absurd (omega arith)
currency-three (a ∷ b ∷ c ∷ []) h = rw (and-true (is_from 65 90 c)) (and_assoc (is_from 65 90 a) (is_from 65 90 b) (is_from 65 90 c))
currency-three (a ∷ b ∷ c ∷ d ∷ t) h = absurd (omega arith)

-- and their number
pub code_three : (t : List ℕ) → length t ≡ 3 → get_or t 0 0 + 256 * get_or t 1 0 + 65_536 * get_or t 2 0 ≡ currency_number t
unfolding unsigned
code_three [] h = absurd (omega arith)
code_three (a ∷ []) h = absurd (omega arith)
code_three (a ∷ b ∷ []) h = absurd (omega arith)
code_three (a ∷ b ∷ c ∷ []) h = omega arith
code_three (a ∷ b ∷ c ∷ d ∷ t) h = absurd (omega arith)

pub currency-long : (t : List ℕ) → is_currency t ≡ true → length t ≡ 3
currency-long t h = eqb-true (length t) 3 (both_true (eqb (length t) 3) _ h).0

pub no_code : (t : List ℕ) → exists is_referenced t ≡ true → code_of t ≡ 0
no_code t e = rw (no_currency t e)
