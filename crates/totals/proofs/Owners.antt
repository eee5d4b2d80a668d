-- Rows that two desks share, as code reads them from lent numbers, and what they mean.
use Rattle.std.proofs.Common.{◌≡◌, ℕ, zero, suc, ◌+◌, ◌-◌, ◌*◌, ◌^◌, ◌<◌, ◌≤◌, Bool, true, false, cond, not, ◌||◌, eqb, List, [], ◌∷◌, ◌++◌, map, get_or, take, drop, sym, refl, ap, ◌∙◌, arith, get_or-drop, drop-drop, ltb-true}
use Rattle.rules.specs.Basics.{exists, every}
use Rattle.rules.specs.Totals.{Row as RulesRow}
use Rattle.rules.specs.TotalNumbers.{is64}
use Rattle.rules.specs.Desks.{Owned, owned, is_desk, with_rows}
use Rattle.rules.specs.DeskNumbers.{rows_in}
use Rattle.rules.proofs.Tests.{both_true}
use Rattle.totals.specs.declared.Row.{Row}
use Rattle.totals.specs.Tables.{row_meant}
use Rattle.totals.specs.Shares.{owned_in, has_stray}

-- the rows from the k-th on: that one, and those after it
module _ (numbers : List ℕ) where
  at : (m i j : ℕ) → m + i ≡ j → get_or (drop m numbers) i 0 ≡ get_or numbers j 0
  at m i j e = get_or-drop m numbers i 0 ∙ ap (λ x. get_or numbers x 0) e

  abbrev pub row_at : ℕ → Row
  row_at k = record { currency = get_or numbers (8 + 3 * k) 0; total = get_or numbers (9 + 3 * k) 0 }

  abbrev pub rows_from : (n k : ℕ) → List (Owned Row)
  rows_from n k = owned_in (n - k) (drop (7 + 3 * k) numbers)

  pub next_row : (n k : ℕ) → k < n → rows_from n k ≡ owned (get_or numbers (7 + 3 * k) 0) (row_at k) ∷ rows_from n (k + 1)
  unfolding owned_in
  next_row n k h =
      let m = 7 + 3 * k in
      let e : n - k ≡ suc (n - (k + 1)) = omega arith in
      let f : m + 3 ≡ 7 + 3 * (k + 1) = omega arith in
      rw (e, at m 0 m (omega arith), at m 1 (8 + 3 * k) (omega arith), at m 2 (9 + 3 * k) (omega arith), drop-drop 3 m numbers, f) refl

-- each number has 64 bits
pub bits_at : (l : List ℕ) → every is64 l ≡ true → (i : ℕ) → get_or l i 0 < 2 ^ 64
unfolding every
bits_at [] h i = omega arith
bits_at (n ∷ l) h zero = ltb-true n (2 ^ 64) (both_true (is64 n) (every is64 l) h).0
bits_at (n ∷ l) h (suc i) = bits_at l (both_true (is64 n) (every is64 l) h).1 i

-- what they mean
abbrev pub meant : Owned Row → Owned RulesRow
meant r = owned r.desk (row_meant r.row)

pub rows-meant : (n : ℕ) (numbers : List ℕ) → map meant (owned_in n numbers) ≡ rows_in n numbers
unfolding owned_in rows_in
rows-meant zero numbers = refl
rows-meant (suc n) numbers = ap (λ l. owned (get_or numbers 0 0) (row_meant (record { currency = get_or numbers 1 0; total = get_or numbers 2 0 })) ∷ l) (rows-meant n (drop 3 numbers))

pub with_meant : (d : ℕ) (new : List Row) (rows : List (Owned Row)) → map meant (with_rows d new rows) ≡ with_rows d (map row_meant new) (map meant rows)
unfolding with_rows
with_meant d [] [] = refl
with_meant d (x ∷ new) [] = ap (λ l. owned d (row_meant x) ∷ l) (with_meant d new [])
with_meant d new (r ∷ rows) = go (eqb r.desk d) new (λ new. with_meant d new rows)
  where
    go : (b : Bool) (new : List Row) → ((new : List Row) → map meant (with_rows d new rows) ≡ with_rows d (map row_meant new) (map meant rows))
        → map meant (cond b (map (owned d) (take 1 new) ++ with_rows d (drop 1 new) rows) (r ∷ with_rows d new rows))
        ≡ cond b (map (owned d) (take 1 (map row_meant new)) ++ with_rows d (drop 1 (map row_meant new)) (map meant rows)) (meant r ∷ with_rows d (map row_meant new) (map meant rows))
    go true [] below = below []
    go true (x ∷ new) below = ap (λ l. owned d (row_meant x) ∷ l) (below new)
    go false new below = ap (λ l. meant r ∷ l) (below new)

-- none of the first k rows is of neither desk
pub record SoFar (numbers : List ℕ) (n k : ℕ) : Type 0 where
  pub high : k ≤ n
  pub rest : has_stray numbers ≡ exists (λ r. not (is_desk r.desk)) (rows_from numbers n k)

module _ (numbers : List ℕ) (n : ℕ) where
  pub begin : get_or numbers 0 0 ≡ n → SoFar numbers n 0
  begin e = record { high = omega arith; rest = let f : n - 0 ≡ n = omega arith in rw (e, f) refl }

  module _ (k : ℕ) (s : SoFar numbers n k) (h : k < n) where
    next : has_stray numbers ≡ (not (is_desk (get_or numbers (7 + 3 * k) 0)) || exists (λ r. not (is_desk r.desk)) (rows_from numbers n (k + 1)))
    unfolding exists
    next = s.rest ∙ ap (exists (λ r. not (is_desk r.desk))) (next_row numbers n k h)

    pub stray : {b : Bool} → b ≡ is_desk (get_or numbers (7 + 3 * k) 0) → not b ≡ true → true ≡ has_stray numbers
    stray e f = sym (next ∙ rw (← e, f) refl)

    pub more : {b : Bool} → b ≡ is_desk (get_or numbers (7 + 3 * k) 0) → not b ≡ false → SoFar numbers n (k + 1)
    more e f = record { high = omega (arith, h); rest = next ∙ rw (← e, f) refl }

  pub none_stray : (k : ℕ) → SoFar numbers n k → n ≤ k → false ≡ has_stray numbers
  unfolding exists owned_in
  none_stray k s h = let e : n - k ≡ 0 = omega arith in sym (s.rest ∙ rw e refl)
