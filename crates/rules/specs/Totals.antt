-- 02-change-requests.md, A6: a day's totals by currency, in ten-thousandths, with counts of records added, null and refused; what a record does to
-- them, and their report.
use Rattle.std.specs.Prelude.{ℕ, suc, ◌+◌, Bool, true, false, not, ◌&&◌, ◌||◌, cond, List, [], ◌∷◌, ◌++◌, ltb, eqb, length, ℤ, pos, neg_ℤ, ◌+ℤ◌}
use Rattle.std.specs.Int.Signed.{le_z}
use Rattle.rules.specs.Basics.{if_some, find, exists, bytes, same}
use Rattle.rules.specs.Refusal.{Refusal, TYPE, NO_ROW, TOTAL, DAMAGED, DAY_FULL, is_same, Outcome, answered, refused, faults_in, ◌unless◌, ◌when◌, ◌and_then◌}
use Rattle.rules.specs.Markup.{Attribute, Element, lookup}
use Rattle.rules.specs.Forms.{is_currency}
use Rattle.rules.specs.Invariants.{is_null}
use Rattle.rules.specs.Types.{MO, has_type}
use Rattle.rules.specs.Check.{element_of, check}
use Rattle.rules.specs.Comparison.{amount_of}

-- a table: rows of a currency and its total in ten-thousandths, in the order in which the currencies were first added; and three counts of records
pub record Row : Type 0 where
  pub currency : List ℕ
  pub total : ℤ

pub record Counts : Type 0 where
  pub added : ℕ
  pub null : ℕ
  pub refused : ℕ

pub record Table : Type 0 where
  pub rows : List Row
  pub counts : Counts

abbrev pub totalling : (currency : List ℕ) → (total : ℤ) → Row
totalling c z = record { currency = c; total = z }

abbrev pub counting : (added null refused : ℕ) → Counts
counting a n r = record { added = a; null = n; refused = r }

abbrev pub table : List Row → Counts → Table
table rows counts = record { rows = rows; counts = counts }

-- "A day starts with an empty table"
abbrev pub empty_table : Table
empty_table = table [] (counting 0 0 0)

abbrev pub counted : Counts → ℕ
counted n = n.added + n.null + n.refused

-- "within plus or minus 9,000,000,000,000,000,000"
abbrev pub is_in_range : ℤ → Bool
is_in_range z = le_z (neg_ℤ (pos 9_000_000_000_000_000_000)) z && le_z z (pos 9_000_000_000_000_000_000)

abbrev pub is_of : List ℕ → Row → Bool
is_of c r = same r.currency c

abbrev pub is_held : List ℕ → List Row → Bool
is_held c = exists (is_of c)

unfoldable pub is_held_twice : List Row → Bool
is_held_twice [] = false
is_held_twice (r ∷ rows) = is_held r.currency rows || is_held_twice rows

-- "over 16 rows, a currency of wrong form or held twice, a total out of range or counts whose sum is over 1,000,000"
unfoldable pub is_damaged : Table → Bool
is_damaged t =
    ltb 16 (length t.rows)
    || exists (λ r. not (is_currency r.currency)) t.rows
    || is_held_twice t.rows
    || exists (λ r. not (is_in_range r.total)) t.rows
    || ltb 1_000_000 (counted t.counts)

-- "1,000,000 are counted"
abbrev pub is_full : Table → Bool
is_full t = eqb (counted t.counts) 1_000_000

-- what an accepted MO says: it is null, or it has an amount of a currency
pub data Entry : Type 0 where
  null : Entry
  money : (currency : List ℕ) → (amount : ℤ) → Entry

-- one that is not null has both (law `entry_cases`)
abbrev pub entry_of : List Attribute → Entry
entry_of attrs = cond (is_null attrs) null (if_some (lookup (bytes "currency") attrs) (λ c. if_some (amount_of attrs) (money c) null) null)

-- "other types are TYPE in its place", also where the record has further faults or is null
abbrev pub not_money : Element → List Refusal
not_money e = TYPE when not (has_type e.attrs MO)

-- the ladder
unfoldable pub reading : (offset : ℤ) → List ℕ → Outcome Entry
reading offset record' = (check offset record' and_then λ e. answered (entry_of e.attrs)) unless faults_in not_money (element_of record')

-- the total of a currency with an amount more
abbrev pub new_total : List ℕ → ℤ → List Row → ℤ
new_total c z rows = if_some (find (is_of c) rows) (λ r. r.total +ℤ z) z

-- after the ladder "16 NO ROW exactly if the currency is new and 16 are held, 17 TOTAL exactly if the new total would leave the range"
unfoldable pub fitting : List Row → Entry → Outcome Entry
fitting rows null = answered null
fitting rows (money c z) =
    answered (money c z) unless NO_ROW when (not (is_held c rows) && eqb (length rows) 16) ++ TOTAL when not (is_in_range (new_total c z rows))

-- the answer to a record: "before the ladder 21 DAMAGED", "then 25 DAY FULL"
unfoldable pub posting : (offset : ℤ) → List ℕ → Table → Outcome Entry
posting offset record' t =
    cond (is_damaged t) (refused DAMAGED) (cond (is_full t) (refused DAY_FULL) (reading offset record' and_then fitting t.rows))

-- an amount more: onto the total of its currency, or as a new row after the others
unfoldable pub entered : List ℕ → ℤ → List Row → List Row
entered c z [] = totalling c z ∷ []
entered c z (r ∷ rows) = cond (is_of c r) (totalling r.currency (r.total +ℤ z) ∷ rows) (r ∷ entered c z rows)

-- records answered 21 or 25 are not counted
abbrev pub is_uncounted : Refusal → Bool
is_uncounted r = is_same r DAMAGED || is_same r DAY_FULL

abbrev pub is_counted : Outcome Entry → Bool
is_counted (answered e) = true
is_counted (refused r) = not (is_uncounted r)

abbrev pub rows_after : Outcome Entry → List Row → List Row
rows_after (answered null) rows = rows
rows_after (answered (money c z)) rows = entered c z rows
rows_after (refused r) rows = rows

abbrev pub counts_after : Outcome Entry → Counts → Counts
counts_after (answered null) n = counting n.added (suc n.null) n.refused
counts_after (answered (money c z)) n = counting (suc n.added) n.null n.refused
counts_after (refused r) n = cond (is_uncounted r) n (counting n.added n.null (suc n.refused))

-- the table after an answer: "A refused or null record, save those two, raises its count by one and changes nothing else"
abbrev pub recorded : Outcome Entry → Table → Table
recorded o t = table (rows_after o t.rows) (counts_after o t.counts)

-- the report: what the table says, "refused only with 21"
unfoldable pub reporting : Table → Outcome Table
reporting t = cond (is_damaged t) (refused DAMAGED) (answered t)
