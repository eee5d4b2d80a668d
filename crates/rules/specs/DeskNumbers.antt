-- 02-change-requests.md, A7, and the C interface: the table as 103 numbers. Rows held; counts of records added, null, refused of desk 1, then of
-- desk 2; then desk, currency and total of 32 rows. What stands in rows past those held says nothing.
use Rattle.std.specs.Prelude.{ℕ, zero, suc, ◌+◌, min, cond, length, drop, get_or, replicate, ℤ}
use mathlib.Core.List.{List, [], ◌∷◌, ◌++◌, flat_map}
use Rattle.rules.specs.Refusal.{Outcome}
use Rattle.rules.specs.Services.{packed, lent_after, overwrite}
use Rattle.rules.specs.Totals.{Row, Counts, counting, Entry, is_counted}
use Rattle.rules.specs.TotalNumbers.{row_in, row_numbers, report_numbers, entry_number}
use Rattle.rules.specs.Desks.{Owned, Shared, owned, shared, is_desk, starting, posting_of, recorded_of, reporting_of}

unfoldable pub rows_in : (held : ℕ) → List ℕ → List (Owned Row)
rows_in zero numbers = []
rows_in (suc n) numbers = owned (get_or numbers 0 0) (row_in (get_or numbers 1 0) (get_or numbers 2 0)) ∷ rows_in n (drop 3 numbers)

abbrev pub counts_at : (place : ℕ) → List ℕ → Counts
counts_at i numbers = counting (get_or numbers i 0) (get_or numbers (1 + i) 0) (get_or numbers (2 + i) 0)

-- over 32 rows are one too many, however many: either desk would have over 16, or one is of neither
abbrev pub shared_in : List ℕ → Shared
shared_in numbers = shared (rows_in (min 33 (get_or numbers 0 0)) (drop 7 numbers)) (counts_at 1 numbers) (counts_at 4 numbers)

abbrev pub count_numbers : Counts → List ℕ
count_numbers n = n.added ∷ n.null ∷ n.refused ∷ []

abbrev pub owned_numbers : Owned Row → List ℕ
owned_numbers r = r.desk ∷ row_numbers r.row

abbrev pub shared_numbers : Shared → List ℕ
shared_numbers s = length s.rows ∷ count_numbers s.first ++ count_numbers s.second ++ flat_map owned_numbers s.rows

-- opening: both desks empty, all numbers 0
abbrev pub opened_table : List ℕ
opened_table = replicate 103 0

-- a start: the rows held are the first ones, and what stands past them stays as it is
abbrev pub start_answer : (desk : ℕ) → (numbers : List ℕ) → ℕ
start_answer n numbers = packed (λ s. 0) (starting n (shared_in numbers))

abbrev pub start_after : (desk : ℕ) → (numbers : List ℕ) → List ℕ
start_after n numbers = lent_after (λ s. overwrite numbers (shared_numbers s)) (starting n (shared_in numbers)) numbers

abbrev pub add_answer : (desk : ℕ) → (offset : ℤ) → (record' numbers : List ℕ) → ℕ
add_answer n offset record' numbers = packed entry_number (posting_of n offset record' (shared_in numbers))

-- the numbers after an answer to a desk: 21 and 25 change nothing, and rows past those then held stay as they are
abbrev pub numbers_after : (desk : ℕ) → Outcome Entry → (numbers : List ℕ) → List ℕ
numbers_after n o numbers = cond (is_counted o) (overwrite numbers (shared_numbers (recorded_of n o (shared_in numbers)))) numbers

-- with no such desk the answer is 23, and nothing changes
abbrev pub add_after : (desk : ℕ) → (offset : ℤ) → (record' numbers : List ℕ) → List ℕ
add_after n offset record' numbers = cond (is_desk n) (numbers_after n (posting_of n offset record' (shared_in numbers)) numbers) numbers

-- bits 8 and up of an answer: the count of the desk's rows
abbrev pub report_answer : (desk : ℕ) → (numbers : List ℕ) → ℕ
report_answer n numbers = packed (λ t. length t.rows) (reporting_of n (shared_in numbers))

abbrev pub report_after : (desk : ℕ) → (numbers report : List ℕ) → List ℕ
report_after n numbers report = lent_after (λ t. overwrite report (report_numbers t)) (reporting_of n (shared_in numbers)) report
