-- 02-change-requests.md, A7: one table for two desks. A desk's part of it is a table of A6, and what a desk calls for is done to its part.
use Rattle.std.specs.Prelude.{ℕ, Bool, not, ◌||◌, cond, List, [], ◌∷◌, ◌++◌, map, eqb, take, drop, ℤ}
use Rattle.rules.specs.Basics.{exists}
use Rattle.rules.specs.Refusal.{DAMAGED, NO_DESK, Outcome, answered, refused}
use Rattle.rules.specs.Totals.{Row, Counts, Table, table, empty_table, is_damaged, Entry, posting, recorded, reporting}

-- "each row belonging to a desk and a currency": a row, with the number of its desk
pub record Owned (A : Type 0) : Type 0 where
  pub desk : ℕ
  pub row : A

abbrev pub owned : {A : Type 0} → (desk : ℕ) → A → Owned A
owned n r = record { desk = n; row = r }

-- "Both desks share one table": its rows, and the counts of desk 1 and of desk 2
pub record Shared : Type 0 where
  pub rows : List (Owned Row)
  pub first : Counts
  pub second : Counts

abbrev pub shared : List (Owned Row) → (first second : Counts) → Shared
shared rows m n = record { rows = rows; first = m; second = n }

-- a desk's number is 1 or 2
abbrev pub is_desk : ℕ → Bool
is_desk n = eqb n 1 || eqb n 2

-- a desk's rows, in their order
unfoldable pub rows_for : {A : Type 0} → (desk : ℕ) → List (Owned A) → List A
rows_for n [] = []
rows_for n (r ∷ rows) = cond (eqb r.desk n) (r.row ∷ rows_for n rows) (rows_for n rows)

-- rows with a desk's own replaced: new ones stand where its rows stood, those left over after all; the others keep their order
unfoldable pub with_rows : {A : Type 0} → (desk : ℕ) → (new : List A) → List (Owned A) → List (Owned A)
with_rows n new [] = map (owned n) new
with_rows n new (r ∷ rows) = cond (eqb r.desk n) (map (owned n) (take 1 new) ++ with_rows n (drop 1 new) rows) (r ∷ with_rows n new rows)

-- a desk's part: a table of A6
abbrev pub counts_for : (desk : ℕ) → Shared → Counts
counts_for n s = cond (eqb n 1) s.first s.second

abbrev pub part_of : (desk : ℕ) → Shared → Table
part_of n s = table (rows_for n s.rows) (counts_for n s)

-- the table with a desk's part replaced
abbrev pub with_part : (desk : ℕ) → Table → Shared → Shared
with_part n t s = shared (with_rows n t.rows s.rows) (cond (eqb n 1) t.counts s.first) (cond (eqb n 1) s.second t.counts)

-- "21 is for a fault in either desk's part or a row of neither"
unfoldable pub is_faulty : Shared → Bool
is_faulty s = is_damaged (part_of 1 s) || is_damaged (part_of 2 s) || exists (λ r. not (is_desk r.desk)) s.rows

-- "23 NO DESK, before all others, for a desk number other than 1 or 2", then 21, then what is asked of the desk's part
unfoldable pub of_desk : {A : Type 0} → (desk : ℕ) → (Table → Outcome A) → Shared → Outcome A
of_desk n ask s = cond (is_desk n) (cond (is_faulty s) (refused DAMAGED) (ask (part_of n s))) (refused NO_DESK)

-- "A start of the day clears one desk's rows and counts only"
abbrev pub starting : (desk : ℕ) → Shared → Outcome Shared
starting n s = of_desk n (λ t. answered (with_part n empty_table s)) s

-- "A6 then reads per desk": the answer to a record, and the table after it
abbrev pub posting_of : (desk : ℕ) → (offset : ℤ) → (record' : List ℕ) → Shared → Outcome Entry
posting_of n offset record' = of_desk n (posting offset record')

abbrev pub recorded_of : (desk : ℕ) → Outcome Entry → Shared → Shared
recorded_of n o s = with_part n (recorded o (part_of n s)) s

-- the report of a desk: "report and start give only 23 and 21"
abbrev pub reporting_of : (desk : ℕ) → Shared → Outcome Table
reporting_of n = of_desk n reporting
