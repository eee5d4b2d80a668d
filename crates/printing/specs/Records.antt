-- The terms of a record by their numbers: those of the stretches, or of no stretch the one term with both bounds open at tick 0.
use Rattle.std.specs.Prelude.{ℕ, zero, suc, ◌+◌, ◌/◌, cond, eqb, length}
use mathlib.Core.List.{List, [], ◌∷◌, flat_map}
use Rattle.rules.specs.Sets.{Interval}
use Rattle.rules.specs.Printing.{term_text}
use Rattle.lent.specs.declared.Row.{Row}
use Rattle.lent.specs.Rows.{row_at}
use Rattle.printing.specs.Terms.{stretch_of}

abbrev pub no_place : Row
no_place = record { low_kind = 1; low_tick = 0; high_kind = 1; high_tick = 0 }

abbrev pub term_count : (list : List ℕ) → ℕ
term_count list = cond (eqb (length list) 0) 1 (length list / 32)

abbrev pub term_row : (list : List ℕ) → (k : ℕ) → Row
term_row list k = cond (eqb (length list) 0) no_place (row_at list k)

-- n terms from the k-th on
unfoldable pub terms_from : (list : List ℕ) → (k n : ℕ) → List Interval
terms_from list k zero = []
terms_from list k (suc n) = stretch_of (term_row list k) ∷ terms_from list (k + 1) n

-- the text of all terms
abbrev pub terms_text : (list : List ℕ) → List ℕ
terms_text list = flat_map term_text (terms_from list 0 (term_count list))
