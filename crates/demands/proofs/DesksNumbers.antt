-- The numbers of a report of a desk, of a table after a start of its day, and after a record that is null or refused.
use Prim.Native.Nat.{ℕ, suc, ◌+◌, ◌-◌, ◌≤◌}
use mathlib.Core.Path.{◌≡◌, refl, sym, ◌∙◌, ap, ap₂}
use mathlib.Core.Logic.{◌⊎◌, inl, inr}
use mathlib.Core.Bool.{Bool, true, false, cond}
use mathlib.Core.List.{List, [], ◌∷◌, ◌++◌, flat_map}
use native.Mathlib.Omega.{arith}
use lib.Dec.{eqb}
use lib.ListN.{length, take, drop, get_or}
use lib.Seq.{drop-drop}
use Rattle.rules.specs.Refusal.{Refusal, answered, refused}
use Rattle.rules.specs.Services.{overwrite}
use Rattle.rules.specs.Totals.{Row, Counts, counting, table, empty_table, null, is_uncounted, counts_after}
use Rattle.rules.specs.TotalNumbers.{Lent, row_numbers, report_numbers}
use Rattle.rules.specs.Desks.{Owned, Shared, shared, is_desk, rows_for, with_rows, counts_for, part_of, with_part, recorded_of}
use Rattle.rules.specs.DeskNumbers.{shared_in, count_numbers, owned_numbers, shared_numbers}
use Rattle.rules.proofs.Tests.{clash}
use Rattle.rules.proofs.Desks.{desk_is, Sound, rows_back}
use Rattle.rules.proofs.DeskNumbers.{at-most_32, shared-written}
use Rattle.demands.specs.Desks.{held_in, counts_from, how_many_of, own_rows, other_rows, cleared, raised}
use Rattle.demands.proofs.DesksRows.{held-is, own_many}
use Rattle.demands.proofs.DesksEntered.{body}

-- the numbers of rows, and of those a desk's own and the others
module _ (n : ℕ) where
  own_rows_lem : (rows : List (Owned Row)) (rest : List ℕ) → own_rows n (length rows) (flat_map owned_numbers rows ++ rest) ≡ flat_map row_numbers (rows_for n rows)
  unfolding own_rows rows_for flat_map
  own_rows_lem [] rest = refl
  own_rows_lem (r ∷ rows) rest = go (eqb r.desk n) (own_rows_lem rows rest)
    where
      go : (b : Bool) → own_rows n (length rows) (flat_map owned_numbers rows ++ rest) ≡ flat_map row_numbers (rows_for n rows)
          → cond b (row_numbers r.row) [] ++ own_rows n (length rows) (flat_map owned_numbers rows ++ rest) ≡ flat_map row_numbers (cond b (r.row ∷ rows_for n rows) (rows_for n rows))
      go true e = ap (λ l. row_numbers r.row ++ l) e
      go false e = e

  other-rows : (rows : List (Owned Row)) (rest : List ℕ) → other_rows n (length rows) (flat_map owned_numbers rows ++ rest) ≡ flat_map owned_numbers (with_rows n [] rows)
  unfolding other_rows with_rows flat_map
  other-rows [] rest = refl
  other-rows (r ∷ rows) rest = go (eqb r.desk n) (other-rows rows rest)
    where
      go : (b : Bool) → other_rows n (length rows) (flat_map owned_numbers rows ++ rest) ≡ flat_map owned_numbers (with_rows n [] rows)
          → cond b [] (owned_numbers r) ++ other_rows n (length rows) (flat_map owned_numbers rows ++ rest) ≡ flat_map owned_numbers (cond b (with_rows n [] rows) (r ∷ with_rows n [] rows))
      go true e = e
      go false e = ap (λ l. owned_numbers r ++ l) e

  other_length : (rows : List (Owned Row)) → length (with_rows n [] rows) + length (rows_for n rows) ≡ length rows
  unfolding with_rows rows_for
  other_length [] = refl
  other_length (r ∷ rows) = go (eqb r.desk n) (other_length rows)
    where
      go : (b : Bool) → length (with_rows n [] rows) + length (rows_for n rows) ≡ length rows
          → length (cond b (with_rows n [] rows) (r ∷ with_rows n [] rows)) + length (cond b (r.row ∷ rows_for n rows) (rows_for n rows)) ≡ suc (length rows)
      go true e = omega arith
      go false e = omega arith

-- seven numbers, and those after them
pub seven : (numbers : List ℕ) → length numbers ≡ 103
    → get_or numbers 0 0 ∷ get_or numbers 1 0 ∷ get_or numbers 2 0 ∷ get_or numbers 3 0 ∷ get_or numbers 4 0 ∷ get_or numbers 5 0 ∷ get_or numbers 6 0 ∷ drop 7 numbers ≡ numbers
seven [] l = clash (omega arith)
seven (a ∷ []) l = clash (omega arith)
seven (a ∷ _ ∷ []) l = clash (omega arith)
seven (a ∷ _ ∷ _ ∷ []) l = clash (omega arith)
seven (a ∷ _ ∷ _ ∷ _ ∷ []) l = clash (omega arith)
seven (a ∷ _ ∷ _ ∷ _ ∷ _ ∷ []) l = clash (omega arith)
seven (a ∷ _ ∷ _ ∷ _ ∷ _ ∷ _ ∷ []) l = clash (omega arith)
seven (a ∷ _ ∷ _ ∷ _ ∷ _ ∷ _ ∷ _ ∷ numbers) l = refl

-- numbers with a table written over them
pub over : (numbers : List ℕ) (s : Shared)
    → overwrite numbers (shared_numbers s) ≡ length s.rows ∷ count_numbers s.first ++ count_numbers s.second ++ body s.rows (drop 7 numbers)
over numbers s =
    let k : ℕ = length (flat_map owned_numbers s.rows) in
    let e : 7 + k ≡ suc (suc (suc (suc (suc (suc (suc k)))))) = omega arith in
    ap (λ l. shared_numbers s ++ l) (sym (drop-drop k 7 numbers ∙ ap (λ i. drop i numbers) e))

-- the numbers of so many rows, with one desk's counts changed
abbrev pub laid : (numbers : List ℕ) → (held : ℕ) → (rest : List ℕ) → (Counts → Counts) → (is_first : Bool) → List ℕ
laid numbers k rest f b =
    let s = shared_in numbers in
    let m = f (cond b s.first s.second) in
    k ∷ count_numbers (cond b m s.first) ++ count_numbers (cond b s.second m) ++ rest

module _ (numbers : List ℕ) (lent : Lent 103 numbers) (p : Sound (shared_in numbers)) where
  abbrev s : Shared
  s = shared_in numbers

  -- an undamaged table is its numbers: the rows held, six counts, the rows, and what lies past them
  few : length s.rows ≤ 32
  few = at-most_32 s p

  held : length s.rows ≡ held_in numbers
  held = held-is numbers few

  pub body_is : body s.rows (drop 7 numbers) ≡ drop 7 numbers
  body_is = ap (drop 7) (sym (over numbers s) ∙ shared-written numbers lent p s.first s.second)

  -- a count raised by one
  one-raised : (n j : ℕ) (f : Counts → Counts) → ((b : Bool) → laid numbers (held_in numbers) (drop 7 numbers) f b ≡ raised (j + cond b 1 4) numbers)
      → overwrite numbers (shared_numbers (with_part n (table (rows_for n s.rows) (f (counts_for n s))) s)) ≡ raised (j + counts_from n) numbers
  one-raised n j f e =
      ap (λ rows. overwrite numbers (shared_numbers (shared rows (cond (eqb n 1) (f (counts_for n s)) s.first) (cond (eqb n 1) s.second (f (counts_for n s)))))) (rows_back n s.rows)
      ∙ shared-written numbers lent p (cond (eqb n 1) (f (counts_for n s)) s.first) (cond (eqb n 1) s.second (f (counts_for n s))) ∙ e (eqb n 1)

  module _ (n : ℕ) (h : is_desk n ≡ true) where
    -- a report
    own_counts : count_numbers (counts_for n s) ≡ take 3 (drop (counts_from n) numbers)
    own_counts = go (eqb n 1)
      where
        go : (b : Bool) → count_numbers (cond b s.first s.second) ≡ take 3 (drop (cond b 1 4) numbers)
        go true = ap (λ l. take 3 (drop 1 l)) (seven numbers lent.long)
        go false = ap (λ l. take 3 (drop 4 l)) (seven numbers lent.long)

    pub report-numbers : (length (rows_for n s.rows) ≡ how_many_of n numbers (held_in numbers))
        × (report_numbers (part_of n s) ≡ take 3 (drop (counts_from n) numbers) ++ own_rows n (held_in numbers) (drop 7 numbers))
    report-numbers = (own_many numbers few n, ap₂ (λ a b. a ++ b) own_counts (sym (own_rows_lem n s.rows _) ∙ ap₂ (own_rows n) held body_is))

    -- a start
    others-many : length (with_rows n [] s.rows) ≡ held_in numbers - how_many_of n numbers (held_in numbers)
    others-many = omega (arith, other_length n s.rows, held, own_many numbers few n)

    others_are : flat_map owned_numbers (with_rows n [] s.rows) ≡ other_rows n (held_in numbers) (drop 7 numbers)
    others_are = sym (other-rows n s.rows _) ∙ ap₂ (other_rows n) held body_is

    started : (n ≡ 1) ⊎ (n ≡ 2) → shared_numbers (with_part n empty_table s) ≡ cleared n numbers
    started (inl e) =
        rw e
        (ap₂ (λ k l. k ∷ 0 ∷ 0 ∷ 0 ∷ l) (rw e at others-many) (ap₂ (λ a b. a ++ b) (ap (λ l. take 3 (drop 4 l)) (seven numbers lent.long)) (rw e at others_are)))
    started (inr e) =
        rw e
        (ap₂ (λ k l. k ∷ l) (rw e at others-many) (ap₂ (λ a b. a ++ (0 ∷ 0 ∷ 0 ∷ []) ++ b) (ap (λ l. take 3 (drop 1 l)) (seven numbers lent.long)) (rw e at others_are)))

    pub start-numbers : overwrite numbers (shared_numbers (with_part n empty_table s)) ≡ overwrite numbers (cleared n numbers)
    start-numbers = ap (overwrite numbers) (started (desk_is n h))

    -- a record that is not added
    pub null-numbers : overwrite numbers (shared_numbers (recorded_of n (answered null) s)) ≡ raised (1 + counts_from n) numbers
    null-numbers = one-raised n 1 (counts_after (answered null)) go
      where
        go : (b : Bool) → laid numbers (held_in numbers) (drop 7 numbers) (counts_after (answered null)) b ≡ raised (1 + cond b 1 4) numbers
        go true = ap (raised 2) (seven numbers lent.long)
        go false = ap (raised 5) (seven numbers lent.long)

    pub refused-numbers : (r : Refusal) → is_uncounted r ≡ false → overwrite numbers (shared_numbers (recorded_of n (refused r) s)) ≡ raised (2 + counts_from n) numbers
    refused-numbers r u = one-raised n 2 (counts_after (refused r)) (λ b. rw u (go b))
      where
        go : (b : Bool) → laid numbers (held_in numbers) (drop 7 numbers) (λ m. counting m.added m.null (suc m.refused)) b ≡ raised (2 + cond b 1 4) numbers
        go true = ap (raised 3) (seven numbers lent.long)
        go false = ap (raised 6) (seven numbers lent.long)
