-- The 103 numbers of a table: what is written is read back, and an undamaged table, written again, is the numbers that it was read from.
use Prim.Native.Nat.{ℕ, zero, suc, ◌+◌, ◌*◌, ◌^◌, ◌≤◌, min}
use mathlib.Core.Path.{◌≡◌, refl, ap}
use mathlib.Core.Logic.{◌⊎◌, inl, inr}
use mathlib.Core.Bool.{Bool, true, false, not, ◌||◌, cond}
use mathlib.Core.List.{List, [], ◌∷◌, ◌++◌, flat_map}
use native.Mathlib.Omega.{arith}
use borrow.Author.Tests.{ltb-true, lt-ltb, not-false, eqb-true}
use lib.Dec.{eqb}
use lib.ListN.{length, drop, get_or, length-append, length-drop}
use Rattle.rules.specs.Basics.{exists, every}
use Rattle.rules.specs.Forms.{is_currency}
use Rattle.rules.specs.Services.{overwrite}
use Rattle.rules.specs.Totals.{Row, Counts, counted, is_in_range}
use Rattle.rules.specs.TotalNumbers.{is64, Lent}
use Rattle.rules.specs.Desks.{Owned, Shared, shared, rows_for}
use Rattle.rules.specs.DeskNumbers.{rows_in, shared_in, count_numbers, owned_numbers, shared_numbers}
use Rattle.rules.proofs.Tests.{clash, neither, both_true}
use Rattle.rules.proofs.TotalNumbers.{total-read, total-written, total-small, currency-read, currency-written, currency_64, every_append, every_drop}
use Rattle.rules.proofs.Desks.{desk_is, is_stray, Sound}

-- the rows of both desks are all rows
module _ {A : Type 0} where
  pub exists-parts : (p : A → Bool) (rows : List (Owned A)) → exists is_stray rows ≡ false → exists p (rows_for 1 rows) ≡ false → exists p (rows_for 2 rows) ≡ false
      → exists (λ r. p r.row) rows ≡ false
  unfolding exists rows_for
  exists-parts p [] h f g = refl
  exists-parts p (r ∷ rows) h f g = let (d, e) = neither (is_stray r) (exists is_stray rows) h in go (eqb r.desk 1) (eqb r.desk 2) d f g (exists-parts p rows e)
    where
      go : (a b : Bool) → not (a || b) ≡ false
          → exists p (cond a (r.row ∷ rows_for 1 rows) (rows_for 1 rows)) ≡ false → exists p (cond b (r.row ∷ rows_for 2 rows) (rows_for 2 rows)) ≡ false
          → (exists p (rows_for 1 rows) ≡ false → exists p (rows_for 2 rows) ≡ false → exists (λ r. p r.row) rows ≡ false)
          → exists (λ r. p r.row) (r ∷ rows) ≡ false
      go true true d f g below = let (i, j) = neither (p r.row) _ f in let (k, l) = neither (p r.row) _ g in rw (i, below j l)
      go true false d f g below = let (i, j) = neither (p r.row) _ f in rw (i, below j g)
      go false true d f g below = let (i, j) = neither (p r.row) _ g in rw (i, below f j)
      go false false d f g below = clash (cc)

  pub length-parts : (rows : List (Owned A)) → exists is_stray rows ≡ false → length rows ≡ length (rows_for 1 rows) + length (rows_for 2 rows)
  unfolding exists rows_for
  length-parts [] h = refl
  length-parts (r ∷ rows) h = let (d, e) = neither (is_stray r) (exists is_stray rows) h in go (eqb r.desk 1) (eqb r.desk 2) refl refl d (length-parts rows e)
    where
      go : (a b : Bool) → eqb r.desk 1 ≡ a → eqb r.desk 2 ≡ b → not (a || b) ≡ false → length rows ≡ length (rows_for 1 rows) + length (rows_for 2 rows)
          → suc (length rows) ≡ length (cond a (r.row ∷ rows_for 1 rows) (rows_for 1 rows)) + length (cond b (r.row ∷ rows_for 2 rows) (rows_for 2 rows))
      go true true e f d below = clash (omega (arith, eqb-true r.desk 1 e, eqb-true r.desk 2 f))
      go true false e f d below = omega arith
      go false true e f d below = omega arith
      go false false e f d below = clash (cc)

-- the rows of an undamaged table
abbrev is_unformed : Row → Bool
is_unformed r = not (is_currency r.currency)

abbrev is_outside : Row → Bool
is_outside r = not (is_in_range r.total)

module _ (s : Shared) (p : Sound s) where
  pub sound-formed : exists (λ r. is_unformed r.row) s.rows ≡ false
  sound-formed = exists-parts is_unformed s.rows p.desks p.first.formed p.second.formed

  pub sound-within : exists (λ r. is_outside r.row) s.rows ≡ false
  sound-within = exists-parts is_outside s.rows p.desks p.first.within p.second.within

  pub at-most_32 : length s.rows ≤ 32
  at-most_32 = omega (arith, length-parts s.rows p.desks, p.first.few, p.second.few)

-- rows: the first of some numbers
rows-read : (rows : List (Owned Row)) (rest : List ℕ) → exists (λ r. is_unformed r.row) rows ≡ false → exists (λ r. is_outside r.row) rows ≡ false
    → rows_in (length rows) (flat_map owned_numbers rows ++ rest) ≡ rows
unfolding rows_in exists flat_map
rows-read [] rest f w = refl
rows-read (r ∷ rows) rest f w =
    let (a, b) = neither _ _ f in
    let (c, d) = neither _ _ w in
    rw (currency-read r.row.currency (not-false _ a), total-read r.row.total (not-false _ c), rows-read rows rest b d)

pub rows-length : (n : ℕ) (numbers : List ℕ) → length (rows_in n numbers) ≡ n
unfolding rows_in
rows-length zero numbers = refl
rows-length (suc n) numbers = ap suc (rows-length n (drop 3 numbers))

rows_written : (n : ℕ) (numbers : List ℕ) → 3 * n ≤ length numbers → every is64 numbers ≡ true → exists (λ r. is_unformed r.row) (rows_in n numbers) ≡ false
    → flat_map owned_numbers (rows_in n numbers) ++ drop (length (flat_map owned_numbers (rows_in n numbers))) numbers ≡ numbers
unfolding rows_in exists every flat_map
rows_written zero numbers l h f = refl
rows_written (suc n) [] l h f = clash (omega arith)
rows_written (suc n) (x ∷ []) l h f = clash (omega arith)
rows_written (suc n) (x ∷ y ∷ []) l h f = clash (omega arith)
rows_written (suc n) (x ∷ y ∷ z ∷ numbers) l h f =
    let (a, b) = neither _ _ f in
    let c = every_drop is64 2 (x ∷ y ∷ z ∷ numbers) h in
    let (i, j) = both_true (is64 z) (every is64 numbers) c in
    rw (currency-written y (not-false _ a), total-written z (ltb-true z (2 ^ 64) i))
    (ap (λ l. x ∷ y ∷ z ∷ l) (rows_written n numbers (omega arith) j b))

-- what is written is read back
pub shared-read : (numbers : List ℕ) (s : Shared) → Sound s → shared_in (overwrite numbers (shared_numbers s)) ≡ s
shared-read numbers s p =
    let e : min 33 (length s.rows) ≡ length s.rows = omega (arith, at-most_32 s p) in
    rw e (ap (λ rows. shared rows s.first s.second) (rows-read s.rows (drop (length (shared_numbers s)) numbers) (sound-formed s p) (sound-within s p)))

-- an undamaged table, written with other counts, is the numbers that it was read from, with those counts
pub shared-written : (numbers : List ℕ) → Lent 103 numbers → Sound (shared_in numbers) → (m n : Counts)
    → overwrite numbers (shared_numbers (shared (shared_in numbers).rows m n)) ≡ get_or numbers 0 0 ∷ count_numbers m ++ count_numbers n ++ drop 7 numbers
shared-written numbers h p m n = go numbers h.long h.bits (at-most_32 (shared_in numbers) p) (sound-formed (shared_in numbers) p)
  where
    held : (a : ℕ) (l : List ℕ) → length (rows_in (min 33 a) l) ≤ 32 → min 33 a ≡ a
    held a l h = let e = rows-length (min 33 a) l in omega arith

    go : (numbers : List ℕ) → length numbers ≡ 103 → every is64 numbers ≡ true → length (shared_in numbers).rows ≤ 32
        → exists (λ r. is_unformed r.row) (shared_in numbers).rows ≡ false
        → overwrite numbers (shared_numbers (shared (shared_in numbers).rows m n)) ≡ get_or numbers 0 0 ∷ count_numbers m ++ count_numbers n ++ drop 7 numbers
    go [] l b few f = clash (omega arith)
    go (a ∷ []) l b few f = clash (omega arith)
    go (a ∷ _ ∷ []) l b few f = clash (omega arith)
    go (a ∷ _ ∷ _ ∷ []) l b few f = clash (omega arith)
    go (a ∷ _ ∷ _ ∷ _ ∷ []) l b few f = clash (omega arith)
    go (a ∷ _ ∷ _ ∷ _ ∷ _ ∷ []) l b few f = clash (omega arith)
    go (a ∷ _ ∷ _ ∷ _ ∷ _ ∷ _ ∷ []) l b few f = clash (omega arith)
    go (a ∷ x₁ ∷ x₂ ∷ x₃ ∷ x₄ ∷ x₅ ∷ x₆ ∷ numbers) l b few f =
        let e = rows-length (min 33 a) numbers in
        let d = every_drop is64 7 (a ∷ x₁ ∷ x₂ ∷ x₃ ∷ x₄ ∷ x₅ ∷ x₆ ∷ numbers) b in
        let j : 3 * min 33 a ≤ length numbers = omega arith in
        rw (e, held a numbers few) (ap (λ l. a ∷ count_numbers m ++ count_numbers n ++ l) (rw (held a numbers few) at (rows_written (min 33 a) numbers j d f)))

-- 103 numbers of 64 bits stay so
owned-numbers : (rows : List (Owned Row)) → length (flat_map owned_numbers rows) ≡ 3 * length rows
unfolding flat_map
owned-numbers [] = refl
owned-numbers (r ∷ rows) = let e = owned-numbers rows in omega arith

rows-small : (rows : List (Owned Row)) → exists is_stray rows ≡ false → exists (λ r. is_unformed r.row) rows ≡ false → exists (λ r. is_outside r.row) rows ≡ false
    → every is64 (flat_map owned_numbers rows) ≡ true
unfolding exists every flat_map
rows-small [] d f w = refl
rows-small (r ∷ rows) d f w =
    let (a, b) = neither _ _ d in
    let (i, j) = neither _ _ f in
    let (k, l) = neither _ _ w in
    rw (desk (desk_is r.desk (not-false _ a)), lt-ltb _ (2 ^ 64) (currency_64 r.row.currency (not-false _ i)), lt-ltb _ (2 ^ 64) (total-small r.row.total (not-false _ k)))
    (rows-small rows b j l)
  where
    desk : (r.desk ≡ 1) ⊎ (r.desk ≡ 2) → is64 r.desk ≡ true
    desk (inl e) = rw e
    desk (inr e) = rw e

pub shared-lent : (numbers : List ℕ) → Lent 103 numbers → (s : Shared) → Sound s → Lent 103 (overwrite numbers (shared_numbers s))
unfolding every
shared-lent numbers h s p = record {
  long = simp (length-append, length-drop, owned-numbers) (omega (arith, at-most_32 s p, h.long));
  bits =
      every_append is64 (shared_numbers s) (drop (length (shared_numbers s)) numbers)
      (rw (small (length s.rows) (omega (arith, at-most_32 s p)))
      (every_append is64 (count_numbers s.first) (count_numbers s.second ++ flat_map owned_numbers s.rows) (counts s.first p.first.below) (every_append is64 (count_numbers s.second) (flat_map owned_numbers s.rows) (counts s.second p.second.below) (rows-small s.rows p.desks (sound-formed s p) (sound-within s p)))))
      (every_drop is64 (length (shared_numbers s)) numbers h.bits);
}
  where
    small : (n : ℕ) → n ≤ 1_000_000 → is64 n ≡ true
    small n l = lt-ltb n (2 ^ 64) (omega arith)

    counts : (n : Counts) → counted n ≤ 1_000_000 → every is64 (count_numbers n) ≡ true
    counts n l = rw (small n.added (omega arith), small n.null (omega arith), small n.refused (omega arith)) refl
