-- 02-change-requests.md, A6: when each answer is given, and what a table says at any moment of a day, in the request's words. The laws `posted` and
-- `posted_only` say that the answers are these and no others, `reached-day` and `never_damaged` that a day is such.
use Rattle.std.specs.Prelude.{ℕ, suc, ◌+◌, ◌*◌, ◌^◌, ◌≡◌, Bool, true, false, not, cond, List, [], ◌∷◌, ◌++◌, map, eqb, length, ℤ, pos, ◌+ℤ◌}
use Rattle.rules.specs.Basics.{exists, same}
use Rattle.rules.specs.Refusal.{Refusal, NO_ROW, TOTAL, DAMAGED, DAY_FULL, Outcome, answered, refused}
use Rattle.rules.specs.Totals.{Row, Counts, Table, totalling, counting, table, empty_table, counted, is_in_range, is_held, is_damaged, Entry, null, money, reading, new_total, posting, is_uncounted, recorded}

-- a record given, under an agreed offset
pub record Call : Type 0 where
  pub offset : ℤ
  pub record' : List ℕ

abbrev pub reading_of : Call → Outcome Entry
reading_of k = reading k.offset k.record'

abbrev pub answer_to : Call → Table → Outcome Entry
answer_to k t = posting k.offset k.record' t

-- neither damaged nor full
pub record IsUsable (t : Table) : Type 0 where
  pub undamaged : is_damaged t ≡ false
  pub not_full : counted t.counts ≡ 1_000_000 → ⊥

-- "the currency is new and 16 are held"
pub record HasNoRow (c : List ℕ) (rows : List Row) : Type 0 where
  pub new : is_held c rows ≡ false
  pub all_held : length rows ≡ 16

-- which answer a record is given
pub data Posted (k : Call) (t : Table) : Outcome Entry → Type 0 where
  -- "before the ladder 21 DAMAGED exactly if the table handed in has over 16 rows, a currency of wrong form or held twice, a total out of range or
  -- counts whose sum is over 1,000,000, then 25 DAY FULL exactly if 1,000,000 are counted"
  damaged : is_damaged t ≡ true → Posted k t (refused DAMAGED)
  full : is_damaged t ≡ false → counted t.counts ≡ 1_000_000 → Posted k t (refused DAY_FULL)
  -- the ladder, "where other types are TYPE in its place"
  faulty : IsUsable t → {r : Refusal} → reading_of k ≡ refused r → Posted k t (refused r)
  a_null : IsUsable t → reading_of k ≡ answered null → Posted k t (answered null)
  -- "after the ladder .. 16 NO ROW exactly if the currency is new and 16 are held, 17 TOTAL exactly if the new total would leave the range"
  no_row : IsUsable t → {c : List ℕ} {z : ℤ} → reading_of k ≡ answered (money c z) → HasNoRow c t.rows → Posted k t (refused NO_ROW)
  out_of_range : IsUsable t → {c : List ℕ} {z : ℤ} → reading_of k ≡ answered (money c z) → (HasNoRow c t.rows → ⊥)
      → is_in_range (new_total c z t.rows) ≡ false → Posted k t (refused TOTAL)
  added : IsUsable t → {c : List ℕ} {z : ℤ} → reading_of k ≡ answered (money c z) → (HasNoRow c t.rows → ⊥)
      → is_in_range (new_total c z t.rows) ≡ true → Posted k t (answered (money c z))

-- one after another, from a beginning on
infixl 10 ◌then◌
pub data History (A : Type 0) : Type 0 where
  beginning : History A
  ◌then◌ : History A → A → History A

-- a day: the table reached by its calls from an empty one, and the answers on the way
unfoldable pub reached : History Call → Table
reached beginning = empty_table
reached (h then k) = recorded (answer_to k (reached h)) (reached h)

unfoldable pub answers : History Call → History (Outcome Entry)
answers beginning = beginning
answers (h then k) = answers h then answer_to k (reached h)

-- which answers a count is of
abbrev pub is_added : Outcome Entry → Bool
is_added (answered null) = false
is_added (answered (money c z)) = true
is_added (refused r) = false

abbrev pub is_null_answer : Outcome Entry → Bool
is_null_answer (answered null) = true
is_null_answer (answered (money c z)) = false
is_null_answer (refused r) = false

abbrev pub is_counted_refusal : Outcome Entry → Bool
is_counted_refusal (answered e) = false
is_counted_refusal (refused r) = not (is_uncounted r)

-- how often such an answer was given
unfoldable pub how_many : {A : Type 0} → (A → Bool) → History A → ℕ
how_many p beginning = 0
how_many p (h then a) = cond (p a) (suc (how_many p h)) (how_many p h)

-- "the sum of the amounts of that currency among the records answered "added" since the start"
unfoldable pub sum_added : List ℕ → History (Outcome Entry) → ℤ
sum_added c beginning = pos 0
sum_added c (h then answered null) = sum_added c h
sum_added c (h then answered (money d z)) = cond (same d c) (sum_added c h +ℤ z) (sum_added c h)
sum_added c (h then refused r) = sum_added c h

-- the currencies added, "in the order in which their currencies were first added"
unfoldable pub currencies_added : History (Outcome Entry) → List (List ℕ)
currencies_added beginning = []
currencies_added (h then answered null) = currencies_added h
currencies_added (h then answered (money c z)) = cond (exists (λ d. same d c) (currencies_added h)) (currencies_added h) (currencies_added h ++ c ∷ [])
currencies_added (h then refused r) = currencies_added h

-- what answers come to: a row for each currency added, with the sum of its amounts; and the counts
abbrev pub rows_of : History (Outcome Entry) → List Row
rows_of h = map (λ c. totalling c (sum_added c h)) (currencies_added h)

abbrev pub counts_of : History (Outcome Entry) → Counts
counts_of h = counting (how_many is_added h) (how_many is_null_answer h) (how_many is_counted_refusal h)

abbrev pub day_of : History (Outcome Entry) → Table
day_of h = table (rows_of h) (counts_of h)

-- what a table says at any moment of a day, by the answers that were said in it, as numbers, and what they told
pub record IsDay (t : Table) (said : History ℕ) (told : History (Outcome Entry)) : Type 0 where
  -- "each total is the sum of the amounts of that currency among the records answered "added" since the start"; "in the order in which their currencies
  -- were first added"; "A currency keeps its row at total zero."
  pub totals : t.rows ≡ rows_of told
  -- "each count is defined from the answers, and the three add up to the records given, save those answered 21 or 25"
  pub added : t.counts.added ≡ how_many (λ a. eqb a (1 * 2 ^ 8)) said
  pub null : t.counts.null ≡ how_many (λ a. eqb a (2 * 2 ^ 8)) said
  pub add_up : counted t.counts + how_many (λ a. eqb a 21) said + how_many (λ a. eqb a 25) said ≡ how_many (λ a. true) said
  -- "Totals stay within plus or minus 9,000,000,000,000,000,000."
  pub in_range : exists (λ r. not (is_in_range r.total)) t.rows ≡ false
  -- it is never damaged
  pub undamaged : is_damaged t ≡ false
