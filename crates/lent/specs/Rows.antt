-- The numbers of a lent list by their positions, and what is asked of the stretches that they say.
use Rattle.std.specs.Prelude.{ℕ, zero, suc, ◌+◌, ◌*◌, Bool, true, false, not, ◌&&◌, ◌||◌, List, [], ◌∷◌, take, drop, ℤ, int_le, int_lt}
use Rattle.rules.specs.Sets.{Interval}
use Rattle.rules.specs.LentLists.{Row as PageRow, is_kind, is_zero, stretch_in, has_bad_kind, has_end_tick, has_inner_end, has_no_place, is_unparted, unsigned, signed}
use Rattle.lent.specs.declared.Row.{Row}

-- the number at a position, in eight bytes, as its bits
abbrev pub number_at : List ℕ → (at : ℕ) → ℕ
number_at list at = unsigned (take 8 (drop at list))

-- the numbers of the k-th stretch
abbrev pub row_at : List ℕ → (k : ℕ) → Row
row_at list k = record {
  low_kind = number_at list (32 * k);
  low_tick = number_at list (32 * k + 8);
  high_kind = number_at list (32 * k + 16);
  high_tick = number_at list (32 * k + 24);
}

-- the same as signed numbers
abbrev pub row_of : Row → PageRow
row_of r = record { low_kind = signed r.low_kind; low_tick = signed r.low_tick; high_kind = signed r.high_kind; high_tick = signed r.high_tick }

-- the k-th stretch
abbrev pub stretch_at : List ℕ → (k : ℕ) → Interval
stretch_at list k = stretch_in (row_of (row_at list k))

-- n stretches from the k-th on
unfoldable pub stretches_from : List ℕ → (k n : ℕ) → List Interval
stretches_from list k zero = []
stretches_from list k (suc n) = stretch_at list k ∷ stretches_from list (k + 1) n

-- a good kind, and tick 0 where it is unbounded
abbrev pub is_bound : (kind tick : ℤ) → Bool
is_bound kind tick = is_kind kind && not (is_zero kind && not (is_zero tick))

-- one tick is before another, or is the same where that is enough
abbrev pub is_in_order : (t u : ℤ) → (equal : Bool) → Bool
is_in_order t u true = int_le t u
is_in_order t u false = int_lt t u

-- the numbers are no stretch, whatever stands beside them
abbrev pub is_faulty : PageRow → Bool
is_faulty r = has_bad_kind r || has_end_tick r || has_no_place (stretch_in r)

-- no place lies between a stretch and the following one
abbrev pub is_clash : PageRow → PageRow → Bool
is_clash r q = has_inner_end (stretch_in r) (stretch_in q) || is_unparted (stretch_in r) (stretch_in q)
