-- What the exported loops return, in the words of the rules ("Sets of times").
use Rattle.std.specs.Prelude.{ℕ, zero, suc, ◌+◌, ◌%◌, ◌≡◌, cond, List, ltb, length, get_or}
use Rattle.rules.specs.Timestamp.{tick_at}
use Rattle.rules.specs.Sets.{closed_at, open_at, Interval, ◌upto◌, Op, union, intersection, difference, Expression, interval, combine}
use Rattle.rules.specs.Stretches.{stretches}
use Rattle.interval.specs.declared.Interval.{Interval as CodeInterval}
use Rattle.interval.specs.Meaning.{interval_of, Ticked}

-- the interval from the number at a position to the next one, which it leaves out
abbrev pub piece_at : List ℕ → (at : ℕ) → Interval
piece_at l i = closed_at (tick_at (get_or l i 0 % 1000000000000)) upto open_at (tick_at (get_or l (i + 1) 0 % 1000000000000))

-- v is that interval as code holds it
pub record IsPiece (l : List ℕ) (at : ℕ) (v : CodeInterval) : Type 0 where
  pub means : interval_of v ≡ piece_at l at
  pub low : Ticked v.low
  pub high : Ticked v.high

-- the union of the intervals 0 to `last` that stand from a position on
abbrev pub joined_to : List ℕ → (from last : ℕ) → Expression
joined_to l from zero = interval (piece_at l from)
joined_to l from (suc k) = combine union (joined_to l from k) (interval (piece_at l (from + suc k + suc k)))

-- the three operations in turn
abbrev pub operation_by : (rest : ℕ) → Op
operation_by zero = union
operation_by (suc zero) = intersection
operation_by (suc (suc n)) = difference

abbrev pub operation_at : ℕ → Op
operation_at n = operation_by (n % 3)

-- how many stretches two sets of 16 intervals make at the last of so many times, the operations taken in turn
abbrev pub last_pair : List ℕ → (times : ℕ) → ℕ
last_pair l zero = 0
last_pair l (suc k) = length (stretches (combine (operation_at k) (joined_to l 0 15) (joined_to l 32 15)))

-- how many stretches the union of 32 intervals has, if it is made at all
abbrev pub last_join : List ℕ → (times : ℕ) → ℕ
last_join l zero = 0
last_join l (suc k) = length (stretches (joined_to l 0 31))

-- 0 where there are not 64 numbers
abbrev pub pairs_count : List ℕ → (times : ℕ) → ℕ
pairs_count l n = cond (ltb (length l) 64) 0 (last_pair l n)

abbrev pub joins_count : List ℕ → (times : ℕ) → ℕ
joins_count l n = cond (ltb (length l) 64) 0 (last_join l n)
