-- A table of totals as code holds it, in the words of the rules (request A6).
use Rattle.std.specs.Prelude.{◌≡◌, ℕ, suc, ◌≤◌, min, Bool, true, cond, not, ◌&&◌, ◌||◌, List, [], ◌∷◌, map, length, take, ◌==◌, nat_lt, slice_index_or}
use mathlib.Core.List.{flat_map}
use Rattle.rules.specs.Basics.{every}
use Rattle.rules.specs.Forms.{is_currency}
use Rattle.rules.specs.Totals.{Row as RulesRow, Counts, Table as RulesTable, counting, table, is_in_range}
use Rattle.rules.specs.TotalNumbers.{is64, currency_in, total_in, row_in}
use Rattle.totals.specs.declared.Row.{Row}
use Rattle.totals.specs.declared.Table.{Table}

-- a row of nothing
abbrev pub blank : Row
blank = record { currency = 0; total = 0 }

-- the rows held, and what they, the counts and the table mean
abbrev pub held_rows : Table → List Row
held_rows t = take t.held t.rows

abbrev pub row_meant : Row → RulesRow
row_meant r = row_in r.currency r.total

abbrev pub counts_meant : Table → Counts
counts_meant t = counting t.added t.null t.refused

abbrev pub table_meant : Table → RulesTable
table_meant t = table (map row_meant (held_rows t)) (counts_meant t)

-- totals have 64 bits
abbrev pub are_totals : List Row → Bool
are_totals = every (λ r. is64 r.total)

-- a table is another of the rules, unless that has too many rows
pub record Holds (x : RulesTable) (t : Table) : Type 0 where
  pub held : t.held ≡ min 17 (length x.rows)
  pub says : t.held ≤ 16 → table_meant t ≡ x
  pub bits : t.held ≤ 16 → are_totals (held_rows t) ≡ true

-- the counts, then the rows held, as numbers
abbrev pub numbers_of : Row → List ℕ
numbers_of r = r.currency ∷ r.total ∷ []

abbrev pub report_of : Table → List ℕ
report_of t = t.added ∷ t.null ∷ t.refused ∷ flat_map numbers_of (held_rows t)

-- the rows before the first of a currency
unfoldable pub place_of : (currency : ℕ) → List Row → ℕ
place_of c [] = 0
place_of c (r ∷ rows) = cond (r.currency == c) 0 (suc (place_of c rows))

-- the k-th of some rows is of no currency, out of range, or of a currency of one before it
abbrev pub is_bad : List Row → (k : ℕ) → Bool
is_bad rows k =
    let r : Row = slice_index_or rows k blank in
    not (is_currency (currency_in r.currency) && is_in_range (total_in r.total)) || nat_lt (place_of r.currency (take k rows)) k
