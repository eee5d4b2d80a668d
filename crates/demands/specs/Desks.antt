-- 02-change-requests.md, A7, "Two desks, one takings table", in its words, and A6 per desk, as statements about the services.
use Rattle.std.specs.Prelude.{ℕ, zero, suc, ◌+◌, ◌-◌, ◌*◌, ◌^◌, ◌<◌, ◌≡◌, ◌⊎◌, ◌↔◌, not, ◌||◌, cond, List, [], ◌∷◌, ◌++◌, eqb, length, take, drop, get_or, set, replicate, ℤ, ◌+ℤ◌}
use Rattle.rules.specs.Refusal.{Refusal, NO_ROW, TOTAL, DAMAGED, NO_DESK, DAY_FULL, number, Outcome, answered, refused}
use Rattle.rules.specs.Services.{overwrite}
use Rattle.rules.specs.Totals.{Row, counted, Entry, null, money}
use Rattle.rules.specs.TotalNumbers.{Lent}
use Rattle.rules.specs.TotalDays.{Call, reading_of, History, beginning, ◌then◌, how_many, IsDay}
use Rattle.rules.specs.Desks.{Owned, Shared, part_of}
use Rattle.rules.specs.DeskNumbers.{shared_in}
use Rattle.rules.specs.DeskDays.{start, add, report, DeskCall}
use Rattle.demands.specs.Services.{Services}
use Rattle.demands.specs.Totals.{AreLetters, IsTotal, told, Limits}

-- "a desk number other than 1 or 2" is none
abbrev pub IsDesk : ℕ → Type 0
IsDesk n = (n ≡ 1) ⊎ (n ≡ 2)

-- The table by its numbers, as C has them: rows held; three counts of desk 1, three of desk 2; then desk, currency and total of each row.
abbrev pub held_in : (numbers : List ℕ) → ℕ
held_in numbers = get_or numbers 0 0

abbrev pub counts_from : (desk : ℕ) → ℕ
counts_from n = cond (eqb n 1) 1 4

-- how many records a desk has counted
abbrev pub counted_by : (desk : ℕ) → (numbers : List ℕ) → ℕ
counted_by n numbers = get_or numbers (counts_from n) 0 + get_or numbers (1 + counts_from n) 0 + get_or numbers (2 + counts_from n) 0

abbrev pub desk_at : (numbers : List ℕ) → (row : ℕ) → ℕ
desk_at numbers i = get_or numbers (7 + 3 * i) 0

abbrev pub currency_at : (numbers : List ℕ) → (row : ℕ) → ℕ
currency_at numbers i = get_or numbers (8 + 3 * i) 0

abbrev pub total_at : (numbers : List ℕ) → (row : ℕ) → ℕ
total_at numbers i = get_or numbers (9 + 3 * i) 0

-- how many of the first k rows are a desk's
unfoldable pub how_many_of : (desk : ℕ) → (numbers : List ℕ) → (k : ℕ) → ℕ
how_many_of n numbers zero = 0
how_many_of n numbers (suc k) = how_many_of n numbers k + cond (eqb (desk_at numbers k) n) 1 0

-- among the first k rows of these numbers, those of a desk, without its number; and all others, whole
unfoldable pub own_rows : (desk k : ℕ) → (rows : List ℕ) → List ℕ
own_rows n zero rows = []
own_rows n (suc k) rows = cond (eqb (get_or rows 0 0) n) (take 2 (drop 1 rows)) [] ++ own_rows n k (drop 3 rows)

unfoldable pub other_rows : (desk k : ℕ) → (rows : List ℕ) → List ℕ
other_rows n zero rows = []
other_rows n (suc k) rows = cond (eqb (get_or rows 0 0) n) [] (take 3 rows) ++ other_rows n k (drop 3 rows)

-- "21 is for a fault in either desk's part or a row of neither"
pub data IsFaulty (numbers : List ℕ) : Type 0 where
  -- "one table of 32 rows"
  too_many : 32 < held_in numbers → IsFaulty numbers
  -- "a row of neither"
  of_neither : (i : ℕ) → i < held_in numbers → (IsDesk (desk_at numbers i) → ⊥) → IsFaulty numbers
  -- of either desk: "over 16 rows"
  over_16 : (n : ℕ) → IsDesk n → 16 < how_many_of n numbers (held_in numbers) → IsFaulty numbers
  -- "a currency of wrong form"
  wrong_form : (i : ℕ) → i < held_in numbers → ((c : List ℕ) → AreLetters c (currency_at numbers i) → ⊥) → IsFaulty numbers
  -- "or held twice"
  held_twice : (i j : ℕ) → i < j → j < held_in numbers → desk_at numbers i ≡ desk_at numbers j → currency_at numbers i ≡ currency_at numbers j → IsFaulty numbers
  -- "a total out of range": in two's complement, above the most and below the least
  out_of_range : (i : ℕ) → i < held_in numbers → 9_000_000_000_000_000_000 < total_at numbers i → total_at numbers i < 2 ^ 64 - 9_000_000_000_000_000_000 → IsFaulty numbers
  -- "or counts whose sum is over 1,000,000"
  over_counted : (n : ℕ) → IsDesk n → 1_000_000 < counted_by n numbers → IsFaulty numbers

-- what a table that is not damaged says
pub record IsRow (r : Owned Row) (desk currency total : ℕ) : Type 0 where
  pub desk_is : r.desk ≡ desk
  pub letters : AreLetters r.row.currency currency
  pub amount : IsTotal r.row.total total

pub record Says (s : Shared) (numbers : List ℕ) : Type 0 where
  pub held : length s.rows ≡ held_in numbers
  pub rows : (i : ℕ) → i < held_in numbers
      → (r : Owned Row) × (take 1 (drop i s.rows) ≡ r ∷ []) × IsRow r (desk_at numbers i) (currency_at numbers i) (total_at numbers i)
  pub first_added : s.first.added ≡ get_or numbers 1 0
  pub first_null : s.first.null ≡ get_or numbers 2 0
  pub first_refused : s.first.refused ≡ get_or numbers 3 0
  pub second_added : s.second.added ≡ get_or numbers 4 0
  pub second_null : s.second.null ≡ get_or numbers 5 0
  pub second_refused : s.second.refused ≡ get_or numbers 6 0

-- a desk, and a table that is not damaged; and its day is not full
pub record Undamaged (numbers : List ℕ) (n : ℕ) : Type 0 where
  pub desk : IsDesk n
  pub sound : IsFaulty numbers → ⊥

pub record NotFull (numbers : List ℕ) (n : ℕ) : Type 0 where
  pub undamaged : Undamaged numbers n
  pub room : counted_by n numbers ≡ 1_000_000 → ⊥

-- Refusals that a start, a record and a report share. "23 NO DESK, before all others, for a desk number other than 1 or 2"; then 21.
pub data Refuses (numbers : List ℕ) (n : ℕ) : (answer : ℕ) → Type 0 where
  no_desk : (IsDesk n → ⊥) → Refuses numbers n (number NO_DESK)
  damaged : IsDesk n → IsFaulty numbers → Refuses numbers n (number DAMAGED)

-- "A start of the day clears one desk's rows and counts only, and its freed rows are used again": the rows held are the first ones, the other desk's in
-- their order, and what stands past them stays
abbrev pub cleared : (desk : ℕ) → (numbers : List ℕ) → List ℕ
cleared n numbers =
    (held_in numbers - how_many_of n numbers (held_in numbers)) ∷ cond (eqb n 1) (0 ∷ 0 ∷ 0 ∷ []) (take 3 (drop 1 numbers)) ++ cond (eqb n 2) (0 ∷ 0 ∷ 0 ∷ []) (take 3 (drop 4 numbers))
    ++ other_rows n (held_in numbers) (drop 7 numbers)

pub data Starting (numbers : List ℕ) (n : ℕ) : (answer : ℕ) → (after : List ℕ) → Type 0 where
  refuses : {a : ℕ} → Refuses numbers n a → Starting numbers n a numbers
  started : Undamaged numbers n → Starting numbers n 0 (overwrite numbers (cleared n numbers))

-- one number raised by one, and the others as they were
abbrev pub raised : (place : ℕ) → List ℕ → List ℕ
raised i numbers = set numbers i (suc (get_or numbers i 0))

-- the i-th row, from 0 on, is of a desk and a currency
pub record IsAt (numbers : List ℕ) (n : ℕ) (c : List ℕ) (i : ℕ) : Type 0 where
  pub held : i < held_in numbers
  pub desk : desk_at numbers i ≡ n
  pub currency : AreLetters c (currency_at numbers i)

-- What a record does: "A6 then reads per desk". The answer, and every number afterwards.
pub data Adding (numbers : List ℕ) (n : ℕ) (k : Call) : (answer : ℕ) → (after : List ℕ) → Type 0 where
  refuses : {a : ℕ} → Refuses numbers n a → Adding numbers n k a numbers
  -- "then 25 DAY FULL exactly if 1,000,000 are counted", which changes nothing
  full_day : Undamaged numbers n → counted_by n numbers ≡ 1_000_000 → Adding numbers n k (number DAY_FULL) numbers
  -- "A refused or null record, save those two, raises its count by one and changes nothing else, demand 1 and document 01 notwithstanding.": the ladder,
  faulty_record : {r : Refusal} → NotFull numbers n → reading_of k ≡ refused r → Adding numbers n k (number r) (raised (2 + counts_from n) numbers)
  null_record : NotFull numbers n → reading_of k ≡ answered null → Adding numbers n k (2 * 2 ^ 8) (raised (1 + counts_from n) numbers)
  -- "after the ladder .. 16 NO ROW exactly if the currency is new and 16 are held, 17 TOTAL exactly if the new total would leave the range"
  no_row : {c : List ℕ} {z : ℤ} → NotFull numbers n → reading_of k ≡ answered (money c z) → ((i : ℕ) → IsAt numbers n c i → ⊥)
      → how_many_of n numbers (held_in numbers) ≡ 16 → Adding numbers n k (number NO_ROW) (raised (2 + counts_from n) numbers)
  out_of_range : {c : List ℕ} {z : ℤ} → NotFull numbers n → reading_of k ≡ answered (money c z)
      → (i : ℕ) → IsAt numbers n c i → {x : ℤ} → IsTotal x (total_at numbers i) → ((total : ℕ) → IsTotal (x +ℤ z) total → ⊥)
      → Adding numbers n k (number TOTAL) (raised (2 + counts_from n) numbers)
  -- else it is added: onto the total of its desk and currency,
  added_to_row : {c : List ℕ} {z : ℤ} → NotFull numbers n → reading_of k ≡ answered (money c z)
      → (i : ℕ) → IsAt numbers n c i → {x : ℤ} → IsTotal x (total_at numbers i) → {total : ℕ} → IsTotal (x +ℤ z) total
      → Adding numbers n k (1 * 2 ^ 8) (set (raised (counts_from n) numbers) (9 + 3 * i) total)
  -- or as a new row after all others
  added_row : {c : List ℕ} {z : ℤ} → NotFull numbers n → reading_of k ≡ answered (money c z) → ((i : ℕ) → IsAt numbers n c i → ⊥)
      → how_many_of n numbers (held_in numbers) < 16 → {currency total : ℕ} → AreLetters c currency → IsTotal z total
      → Adding numbers n k (1 * 2 ^ 8)
      (set (set (set (set (raised (counts_from n) numbers) 0 (suc (held_in numbers))) (7 + 3 * held_in numbers) n) (8 + 3 * held_in numbers) currency) (9 + 3 * held_in numbers) total)

-- The report of a desk: its own counts, then its own rows in their order. "report and start give only 23 and 21"
pub data Reporting (numbers before : List ℕ) (n : ℕ) : (answer : ℕ) → (after : List ℕ) → Type 0 where
  refuses : {a : ℕ} → Refuses numbers n a → Reporting numbers before n a before
  reported : Undamaged numbers n
      → Reporting numbers before n (how_many_of n numbers (held_in numbers) * 2 ^ 8)
      (overwrite before (take 3 (drop (counts_from n) numbers) ++ own_rows n (held_in numbers) (drop 7 numbers)))

-- of adding: each refusal that the two requests add, and exactly when it is given
pub record Exactly (numbers : List ℕ) (n : ℕ) (k : Call) (answer : ℕ) : Type 0 where
  pub no_desk : answer ≡ number NO_DESK ↔ (IsDesk n → ⊥)
  pub damaged : answer ≡ number DAMAGED ↔ IsDesk n × IsFaulty numbers
  pub day_full : answer ≡ number DAY_FULL ↔ Undamaged numbers n × (counted_by n numbers ≡ 1_000_000)
  pub no_row : answer ≡ number NO_ROW
      ↔ (c : List ℕ) × (z : ℤ) × NotFull numbers n × (reading_of k ≡ answered (money c z)) × ((i : ℕ) → IsAt numbers n c i → ⊥) × (how_many_of n numbers (held_in numbers) ≡ 16)
  pub total : answer ≡ number TOTAL
      ↔ (c : List ℕ) × (z x : ℤ) × (i : ℕ) × NotFull numbers n × (reading_of k ≡ answered (money c z)) × IsAt numbers n c i × IsTotal x (total_at numbers i)
      × ((total : ℕ) → IsTotal (x +ℤ z) total → ⊥)

-- what a desk is answered: the answer, and the memory that it lent for a report as it is then, none for a start or a record
pub record Heard : Type 0 where
  pub answer : ℕ
  pub memory : List ℕ

abbrev pub hearing : (answer : ℕ) → (memory : List ℕ) → Heard
hearing a m = record { answer = a; memory = m }

-- Calls of both desks in any order, calls with no desk among them, from the opening of a table on. A report is lent the table only to read, so it
-- leaves it as it is; another opening begins another history.
module _ (s : Services) where
  abbrev pub leaves_after : (numbers : List ℕ) → DeskCall → List ℕ
  leaves_after numbers k = elim k.ask [
    | start ↦ s.start_leaves k.desk numbers
    | add c ↦ s.add_leaves k.desk c.offset c.record' numbers
    | report lent ↦ numbers
  ]

  abbrev pub hears : (numbers : List ℕ) → DeskCall → Heard
  hears numbers k = elim k.ask [
    | start ↦ hearing (s.start_says k.desk numbers) []
    | add c ↦ hearing (s.add_says k.desk c.offset c.record' numbers) []
    | report lent ↦ hearing (s.report_says k.desk numbers) (s.report_leaves k.desk numbers lent)
  ]

  module _ (before : List ℕ) where
    unfoldable pub table_at : History DeskCall → List ℕ
    table_at beginning = s.open_leaves before
    table_at (h then k) = leaves_after (table_at h) k

    -- all that a desk is answered
    unfoldable pub heard_by : (desk : ℕ) → History DeskCall → History Heard
    heard_by n beginning = beginning
    heard_by n (h then k) = cond (eqb k.desk n) (heard_by n h then hears (table_at h) k) (heard_by n h)

    -- the answers to the records that a desk gave "from that desk's last start", or from the opening if there is none, and what they told
    unfoldable pub said_to : (desk : ℕ) → History DeskCall → History ℕ
    said_to n beginning = beginning
    said_to n (h then k) = cond (eqb k.desk n) (elim k.ask [
      | start ↦ beginning
      | add c ↦ said_to n h then s.add_says k.desk c.offset c.record' (table_at h)
      | report lent ↦ said_to n h
    ]) (said_to n h)

    unfoldable pub told_to : (desk : ℕ) → History DeskCall → History (Outcome Entry)
    told_to n beginning = beginning
    told_to n (h then k) = cond (eqb k.desk n) (elim k.ask [
      | start ↦ beginning
      | add c ↦ told_to n h then told c (s.add_says k.desk c.offset c.record' (table_at h))
      | report lent ↦ told_to n h
    ]) (told_to n h)

-- of a history, a desk's own calls alone
pub data OwnCalls (n : ℕ) : (all own : History DeskCall) → Type 0 where
  none : OwnCalls n beginning beginning
  its : {g h : History DeskCall} {k : DeskCall} → OwnCalls n g h → k.desk ≡ n → OwnCalls n (g then k) (h then k)
  another : {g h : History DeskCall} {k : DeskCall} → OwnCalls n g h → (k.desk ≡ n → ⊥) → OwnCalls n (g then k) h

pub record DesksPromise (s : Services) : Type 0 where
  -- lent numbers are so many, each of 64 bits
  pub lent : (count : ℕ) (numbers : List ℕ) → Lent count numbers ↔ (length numbers ≡ count) × ((i : ℕ) → get_or numbers i 0 < 2 ^ 64)
  -- the opening: all numbers 0
  pub opens : (numbers : List ℕ) → Lent 103 numbers → (s.open_says numbers ≡ 0) × (s.open_leaves numbers ≡ replicate 103 0)
  -- "Whatever records one desk sends, and however the calls are mixed, the other desk's answers, counts, totals and report are those it would get
  -- with the box to itself": those of its own calls alone, to a table of its own
  pub isolation : (before alone : List ℕ) → Lent 103 before → Lent 103 alone → (n : ℕ) → IsDesk n → {all own : History DeskCall} → OwnCalls n all own
      → (heard_by s before n all ≡ heard_by s alone n own) × (part_of n (shared_in (table_at s before all)) ≡ part_of n (shared_in (table_at s alone own)))
  -- and there are such of every history
  pub own_calls : (n : ℕ) (all : History DeskCall) → (own : History DeskCall) × OwnCalls n all own
  -- "A6 then reads per desk, from that desk's last start, its row and day limits included. All this is said of a table reached by calls from its opening."
  pub days : (before : List ℕ) → Lent 103 before → (h : History DeskCall) (n : ℕ) → IsDesk n
      → IsDay (part_of n (shared_in (table_at s before h))) (said_to s before n h) (told_to s before n h)
  pub limits : (before : List ℕ) → Lent 103 before → (h : History DeskCall) (n : ℕ) → IsDesk n → (k : Call) (c : List ℕ) (z : ℤ) → reading_of k ≡ answered (money c z)
      → counted (part_of n (shared_in (table_at s before h))).counts < 1_000_000
      → Limits (told_to s before n h) c z (s.add_says n k.offset k.record' (table_at s before h))
  -- "then 25 DAY FULL exactly if 1,000,000 are counted": since that desk's last start, save those answered 21 or 25
  pub full_days : (before : List ℕ) → Lent 103 before → (h : History DeskCall) (n : ℕ) → IsDesk n → (k : Call)
      → s.add_says n k.offset k.record' (table_at s before h) ≡ number DAY_FULL ↔ how_many (λ a. not (eqb a 21 || eqb a 25)) (said_to s before n h) ≡ 1_000_000
  pub tables : (before : List ℕ) → Lent 103 before → (h : History DeskCall) → Lent 103 (table_at s before h) × (IsFaulty (table_at s before h) → ⊥)
  -- what an undamaged table says, by its numbers
  pub says : (numbers : List ℕ) → Lent 103 numbers → (IsFaulty numbers → ⊥) → Says (shared_in numbers) numbers
  -- and of any table handed in
  pub starts : (numbers : List ℕ) → Lent 103 numbers → (n : ℕ) → Starting numbers n (s.start_says n numbers) (s.start_leaves n numbers)
  pub adds : (numbers : List ℕ) → Lent 103 numbers → (n : ℕ) (k : Call)
      → Adding numbers n k (s.add_says n k.offset k.record' numbers) (s.add_leaves n k.offset k.record' numbers)
  pub exactly : (numbers : List ℕ) → Lent 103 numbers → (n : ℕ) (k : Call) → Exactly numbers n k (s.add_says n k.offset k.record' numbers)
  pub reports : (numbers before : List ℕ) → Lent 103 numbers → Lent 35 before → (n : ℕ)
      → Reporting numbers before n (s.report_says n numbers) (s.report_leaves n numbers before)
  -- a call under another number changes nothing of a desk's part
  pub others : (numbers : List ℕ) → Lent 103 numbers → (k : DeskCall) (m : ℕ) → IsDesk m → (k.desk ≡ m → ⊥)
      → part_of m (shared_in (leaves_after s numbers k)) ≡ part_of m (shared_in numbers)
