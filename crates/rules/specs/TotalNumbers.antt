-- 02-change-requests.md, A6, and the C interface: currencies, totals and reports as numbers of 64 bits.
use Rattle.std.specs.Prelude.{ℕ, suc, ◌-◌, ◌^◌, ◌≡◌, Bool, true, cond, ltb, length, ℤ, pos, negsuc}
use mathlib.Core.List.{List, [], ◌∷◌, flat_map}
use Rattle.rules.specs.Basics.{every}
use Rattle.rules.specs.Services.{low_bytes}
use Rattle.rules.specs.LentLists.{unsigned, signed}
use Rattle.rules.specs.Totals.{Row, Table, totalling, Entry, null, money}

-- so many numbers of 64 bits: what the type of an array says to C
abbrev pub is64 : ℕ → Bool
is64 n = ltb n (2 ^ 64)

pub record Lent (count : ℕ) (numbers : List ℕ) : Type 0 where
  pub long : length numbers ≡ count
  pub bits : every is64 numbers ≡ true

-- a total is two's complement
abbrev pub total_number : ℤ → ℕ
total_number (pos n) = n
total_number (negsuc n) = 2 ^ 64 - suc n

abbrev pub total_in : ℕ → ℤ
total_in = signed

-- a currency is its three letters in the lowest bytes, lowest first; a number with more bytes than three is of wrong form
abbrev pub currency_number : List ℕ → ℕ
currency_number = unsigned

abbrev pub currency_in : ℕ → List ℕ
currency_in n = cond (ltb n (2 ^ 24)) (low_bytes 3 n) (low_bytes 8 n)

abbrev pub row_in : (currency total : ℕ) → Row
row_in c n = totalling (currency_in c) (total_in n)

abbrev pub row_numbers : Row → List ℕ
row_numbers r = currency_number r.currency ∷ total_number r.total ∷ []

-- "The report gives the counts, then the rows"
abbrev pub report_numbers : Table → List ℕ
report_numbers t = t.counts.added ∷ t.counts.null ∷ t.counts.refused ∷ flat_map row_numbers t.rows

-- bits 8 to 15 of an answer: 1 added, 2 null
abbrev pub entry_number : Entry → ℕ
entry_number null = 2
entry_number (money c z) = 1
