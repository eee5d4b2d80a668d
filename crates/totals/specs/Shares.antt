-- The rows that two desks share, as code holds them (request A7).
use Rattle.std.specs.Prelude.{ℕ, zero, suc, Bool, not, List, [], ◌∷◌, drop, slice_index}
use Rattle.rules.specs.Basics.{exists}
use Rattle.rules.specs.Desks.{Owned, owned, is_desk}
use Rattle.totals.specs.declared.Row.{Row}

-- so many rows, from their numbers on
unfoldable pub owned_in : (held : ℕ) → List ℕ → List (Owned Row)
owned_in zero numbers = []
owned_in (suc n) numbers = owned (slice_index numbers 0) (record { currency = slice_index numbers 1; total = slice_index numbers 2 }) ∷ owned_in n (drop 3 numbers)

abbrev pub held_in : (numbers : List ℕ) → List (Owned Row)
held_in numbers = owned_in (slice_index numbers 0) (drop 7 numbers)

abbrev pub has_stray : (numbers : List ℕ) → Bool
has_stray numbers = exists (λ r. not (is_desk r.desk)) (held_in numbers)

-- a row as numbers
abbrev pub owned_numbers : Owned Row → List ℕ
owned_numbers r = r.desk ∷ r.row.currency ∷ r.row.total ∷ []
