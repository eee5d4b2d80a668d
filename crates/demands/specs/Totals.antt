-- 02-change-requests.md, A6, "A day's takings, exact", in its words: what a record says, currencies and totals as numbers, and two limits of a day. What
-- the services do with a table, which two desks share, is in `Desks`.
use Rattle.std.specs.Prelude.{ℕ, ◌+◌, ◌-◌, ◌*◌, ◌^◌, ◌≤◌, ◌<◌, ◌≡◌, ◌⊎◌, ◌↔◌, Bool, true, false, not, cond, List, [], ◌∷◌, ◌++◌, eqb, length, ℤ, pos, neg_ℤ, ◌+ℤ◌}
use Rattle.std.proofs.Math.Option.{some}
use Rattle.rules.specs.Basics.{if_some, find, exists, every, bytes, same, is_digit, decimal}
use Rattle.rules.specs.Refusal.{Refusal, TYPE, NO_ROW, TOTAL, number, precedence, first_of, Outcome, answered, refused, faults_in, ◌when◌}
use Rattle.rules.specs.Parsers.{whole}
use Rattle.rules.specs.Markup.{Element, lookup}
use Rattle.rules.specs.Forms.{amount_text}
use Rattle.rules.specs.Invariants.{is_null}
use Rattle.rules.specs.Types.{MO, has_type}
use Rattle.rules.specs.Check.{element_of, check}
use Rattle.rules.specs.Totals.{is_in_range, Entry, null, money}
use Rattle.rules.specs.TotalDays.{Call, reading_of, History, sum_added, currencies_added}

-- What a record says: "MO records" have amounts or are null, and "other types are TYPE in its place".
pub data Reads (k : Call) : Outcome Entry → Type 0 where
  -- the first of its faults, or TYPE if it is no MO and TYPE stands before that on the ladder
  faulty : {r q : Refusal} → check k.offset k.record' ≡ refused r → first_of (r ∷ faults_in (λ e. TYPE when not (has_type e.attrs MO)) (element_of k.record')) ≡ some q
      → Reads k (refused q)
  other_type : {e : Element} → check k.offset k.record' ≡ answered e → has_type e.attrs MO ≡ false → Reads k (refused TYPE)
  a_null : {e : Element} → check k.offset k.record' ≡ answered e → has_type e.attrs MO ≡ true → is_null e.attrs ≡ true → Reads k (answered null)
  an_amount : {e : Element} {c text : List ℕ} {z : ℤ} → check k.offset k.record' ≡ answered e → has_type e.attrs MO ≡ true → is_null e.attrs ≡ false
      → lookup (bytes "currency") e.attrs ≡ some c → lookup (bytes "value") e.attrs ≡ some text → whole amount_text text ≡ some z → Reads k (answered (money c z))

-- so many digits
pub record AreDigits (least most : ℕ) (ds : List ℕ) : Type 0 where
  pub digits : every is_digit ds ≡ true
  pub enough : least ≤ length ds
  pub few : length ds ≤ most

-- an amount as it is written: a sign or none, digits, and a point before those of a fraction; and its value
abbrev pub pointed : (fraction : List ℕ) → List ℕ
pointed [] = []
pointed (f ∷ fs) = 46 ∷ f ∷ fs

abbrev pub sign_written : (negative : Bool) → List ℕ
sign_written true = 45 ∷ []
sign_written false = []

abbrev pub of_sign : (negative : Bool) → ℕ → ℤ
of_sign true n = neg_ℤ (pos n)
of_sign false n = pos n

-- A row's currency and total as C has them: three capitals, the first in the lowest byte, and two's complement.
abbrev pub IsCapital : ℕ → Type 0
IsCapital b = (65 ≤ b) × (b ≤ 90)

abbrev pub AreLetters : (currency : List ℕ) → ℕ → Type 0
AreLetters c n = (x y z : ℕ) × (c ≡ x ∷ y ∷ z ∷ []) × IsCapital x × IsCapital y × IsCapital z × (n ≡ x + 256 * y + 65_536 * z)

abbrev pub IsTotal : ℤ → ℕ → Type 0
IsTotal t n = (m : ℕ) × (m ≤ 9_000_000_000_000_000_000) × (((t ≡ pos m) × (n ≡ m)) ⊎ ((t ≡ neg_ℤ (pos m)) × (0 < m) × (n + m ≡ 2 ^ 64)))

-- an answer as it was told: "added" is of the amount that the record has
abbrev pub told : Call → (answer : ℕ) → Outcome Entry
told k answer =
    cond (eqb answer (1 * 2 ^ 8)) (reading_of k)
    (cond (eqb answer (2 * 2 ^ 8)) (answered null) (refused (if_some (find (λ r. eqb answer (number r)) precedence) (λ r. r) TYPE)))

-- the two limits in a day that is not full, for a record of an amount z of a currency c
pub record Limits (h : History (Outcome Entry)) (c : List ℕ) (z : ℤ) (answer : ℕ) : Type 0 where
  -- "16 NO ROW exactly if the currency is new and 16 are held"
  pub no_row : answer ≡ number NO_ROW ↔ (exists (λ d. same d c) (currencies_added h) ≡ false) × (length (currencies_added h) ≡ 16)
  -- "17 TOTAL exactly if the new total would leave the range"
  pub total : answer ≡ number TOTAL
      ↔ ((exists (λ d. same d c) (currencies_added h) ≡ false) × (length (currencies_added h) ≡ 16) → ⊥) × (is_in_range (sum_added c h +ℤ z) ≡ false)

pub record TotalsPromise : Type 0 where
  -- what the amounts are, "in ten-thousandths"
  pub readings : (k : Call) → Reads k (reading_of k)
  pub amounts : (negative : Bool) (ds fs : List ℕ) → AreDigits 1 12 ds → AreDigits 0 4 fs
      → whole amount_text (sign_written negative ++ ds ++ pointed fs) ≡ some (of_sign negative (decimal (ds ++ fs) * 10 ^ (4 - length fs)))
  -- which totals are "within plus or minus 9,000,000,000,000,000,000"
  pub range : (negative : Bool) (n : ℕ) → is_in_range (of_sign negative n) ≡ true ↔ n ≤ 9_000_000_000_000_000_000
