-- The rows of a lent list by their positions, and its stretches.
use Rattle.std.proofs.Common.{◌≡◌, ℕ, zero, suc, ◌+◌, ◌*◌, ◌/◌, List, [], ◌∷◌, length, drop, refl, ap, ◌∙◌, arith, drop-drop}
use Rattle.rules.specs.LentLists.{Row as PageRow, rows_of, stretches_in, numbers_from, numbers_in, listed}
use Rattle.lent.specs.Rows.{number_at, row_at, row_of, stretch_at, stretches_from}

-- n rows from the k-th on
unfoldable pub rows_from : List ℕ → (k n : ℕ) → List PageRow
rows_from list k zero = []
rows_from list k (suc n) = row_of (row_at list k) ∷ rows_from list (k + 1) n

pub rows_from_length : (list : List ℕ) (k n : ℕ) → length (rows_from list k n) ≡ n
unfolding rows_from
rows_from_length list k zero = refl
rows_from_length list k (suc n) = ap suc (rows_from_length list (k + 1) n)

-- a row is four numbers, one after another
row_read : (s : List ℕ) (n : ℕ) → rows_of (numbers_from (suc (suc (suc (suc n)))) s)
    ≡ row_of (record { low_kind = number_at s 0; low_tick = number_at (drop 8 s) 0; high_kind = number_at (drop 8 (drop 8 s)) 0; high_tick = number_at (drop 8 (drop 8 (drop 8 s))) 0 })
    ∷ rows_of (numbers_from n (drop 8 (drop 8 (drop 8 (drop 8 s)))))
unfolding rows_of numbers_from
row_read s n = refl

no_row : (s : List ℕ) → rows_of (numbers_from 0 s) ≡ []
unfolding rows_of numbers_from
no_row s = refl

rows-read : (list : List ℕ) (k n : ℕ) → rows_of (numbers_from (4 * n) (drop (32 * k) list)) ≡ rows_from list k n
unfolding rows_from
rows-read list k zero = no_row (drop (32 * k) list)
rows-read list k (suc n) =
    let z : 4 * suc n ≡ suc (suc (suc (suc (4 * n)))) = omega arith in
    let a : 32 * k + 8 + 8 ≡ 32 * k + 16 = omega arith in
    let b : 32 * k + 16 + 8 ≡ 32 * k + 24 = omega arith in
    let d : 32 * k + 24 + 8 ≡ 32 * (k + 1) = omega arith in
    rw (z, row_read, drop-drop 8 (32 * k) list, drop-drop 8 (32 * k + 8) list, a, drop-drop 8 (32 * k + 16) list, b, drop-drop 8 (32 * k + 24) list, d, rows-read list (k + 1) n)

stretches-read : (list : List ℕ) (k n : ℕ) → stretches_in (rows_from list k n) ≡ stretches_from list k n
unfolding rows_from stretches_in stretches_from
stretches-read list k zero = refl
stretches-read list k (suc n) = ap (stretch_at list k ∷◌) (stretches-read list (k + 1) n)

pub rows_in : (list : List ℕ) (n : ℕ) → length list ≡ 32 * n → rows_of (numbers_in list) ≡ rows_from list 0 n
rows_in list n h = let e : length list / 8 ≡ 4 * n = omega arith in rw e (rows-read list 0 n)

-- a list of n stretches, by their positions
pub listed-rows : (list : List ℕ) (n : ℕ) → length list ≡ 32 * n → listed list ≡ stretches_from list 0 n
listed-rows list n h = ap stretches_in (rows_in list n h) ∙ stretches-read list 0 n
