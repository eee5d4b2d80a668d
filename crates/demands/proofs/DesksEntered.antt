-- An amount more of a desk: one row of both desks' changes its total, or one comes after all; and what that does to the numbers of the rows.
use Prim.Native.Nat.{ℕ, zero, suc, ◌+◌, ◌*◌, ◌≤◌}
use mathlib.Core.Path.{◌≡◌, refl, sym, ◌∙◌, ap, ap₂}
use mathlib.Core.Bool.{Bool, true, false, cond}
use mathlib.Core.List.{List, [], ◌∷◌, ◌++◌, flat_map, map}
use native.Mathlib.Omega.{arith}
use borrow.Author.Tests.{eqb-true}
use lib.Dec.{eqb}
use lib.ListN.{length, take, drop, set, length-drop}
use lib.Seq.{drop-drop}
use lib.IntN.{ℤ, ◌+ℤ◌}
use Rattle.rules.specs.Totals.{Row, totalling, is_of, is_held, is_held_twice, entered}
use Rattle.rules.specs.TotalNumbers.{total_number, currency_number}
use Rattle.rules.specs.Desks.{Owned, owned, rows_for, with_rows}
use Rattle.rules.specs.DeskNumbers.{owned_numbers}
use Rattle.rules.proofs.Tests.{clash, neither, same_true, same_refl, eqb_refl}
use Rattle.rules.proofs.TotalRows.{entered-new}
use Rattle.rules.proofs.Desks.{rows_back}
use Rattle.demands.proofs.DesksRows.{IsNth, none-nth, no_own}

module _ (n : ℕ) where
  own_is : {A : Type 0} (r : Owned A) → eqb r.desk n ≡ true → owned n r.row ≡ r
  own_is r e = ap (λ d. owned d r.row) (sym (eqb-true r.desk n e))

  -- rows of a desk that are more than it has come after all
  rows_more : {A : Type 0} (new : List A) (rows : List (Owned A)) → with_rows n (rows_for n rows ++ new) rows ≡ rows ++ map (owned n) new
  unfolding rows_for with_rows
  rows_more new [] = refl
  rows_more new (r ∷ rows) = go (eqb r.desk n) refl (rows_more new rows)
    where
      go : (b : Bool) → eqb r.desk n ≡ b → with_rows n (rows_for n rows ++ new) rows ≡ rows ++ map (owned n) new
          → cond b (map (owned n) (take 1 (cond b (r.row ∷ rows_for n rows) (rows_for n rows) ++ new)) ++ with_rows n (drop 1 (cond b (r.row ∷ rows_for n rows) (rows_for n rows) ++ new)) rows) (r ∷ with_rows n (cond b (r.row ∷ rows_for n rows) (rows_for n rows) ++ new) rows)
          ≡ r ∷ rows ++ map (owned n) new
      go true e below = rw (own_is r e) (ap (λ l. r ∷ l) below)
      go false e below = ap (λ l. r ∷ l) below

  module _ (c : List ℕ) (z : ℤ) where
    pub row_more : (rows : List (Owned Row)) → is_held c (rows_for n rows) ≡ false → with_rows n (entered c z (rows_for n rows)) rows ≡ rows ++ owned n (totalling c z) ∷ []
    row_more rows h = rw (entered-new c z (rows_for n rows) h) (rows_more (totalling c z ∷ []) rows)

    pub row_changed : (rows : List (Owned Row)) (i : ℕ) (r : Row) → IsNth rows i (owned n r) → is_of c r ≡ true → is_held_twice (rows_for n rows) ≡ false
        → with_rows n (entered c z (rows_for n rows)) rows ≡ set rows i (owned n (totalling r.currency (r.total +ℤ z)))
    unfolding rows_for with_rows entered is_held_twice
    row_changed [] i r e h w = absurd (none-nth i (owned n r) e)
    row_changed (q ∷ rows) zero r e h w =
        let f : q ≡ owned n r = cc in
        rw (f, eqb_refl n, h) (ap (λ l. owned n (totalling r.currency (r.total +ℤ z)) ∷ l) (rows_back n rows))
    row_changed (q ∷ rows) (suc i) r e h w = go (eqb q.desk n) (is_of c q.row) refl refl w (row_changed rows i r e h)
      where
        new : List (Owned Row)
        new = set rows i (owned n (totalling r.currency (r.total +ℤ z)))

        go : (a b : Bool) → eqb q.desk n ≡ a → is_of c q.row ≡ b → is_held_twice (cond a (q.row ∷ rows_for n rows) (rows_for n rows)) ≡ false
            → (is_held_twice (rows_for n rows) ≡ false → with_rows n (entered c z (rows_for n rows)) rows ≡ new)
            → with_rows n (entered c z (cond a (q.row ∷ rows_for n rows) (rows_for n rows))) (q ∷ rows) ≡ q ∷ new
        go true true d f w below =
            let g = no_own n (is_of q.row.currency) rows (neither (is_held q.row.currency (rows_for n rows)) (is_held_twice (rows_for n rows)) w).0 i r e in
            let k : is_of q.row.currency r ≡ true = rw (same_true q.row.currency c f, same_true r.currency c h) (same_refl c) in
            clash (cc)
        go true false d f w below = rw (d, f, own_is q d) (ap (λ l. q ∷ l) (below (neither (is_held q.row.currency (rows_for n rows)) (is_held_twice (rows_for n rows)) w).1))
        go false b d f w below = rw d (ap (λ l. q ∷ l) (below w))

-- the numbers of some rows, and of others what lies past them
abbrev pub body : List (Owned Row) → List ℕ → List ℕ
body rows rest = flat_map owned_numbers rows ++ drop (length (flat_map owned_numbers rows)) rest

body-first : (r : Owned Row) (rows : List (Owned Row)) (rest : List ℕ) → body (r ∷ rows) rest ≡ owned_numbers r ++ body rows (drop 3 rest)
unfolding flat_map
body-first r rows rest =
    let k : ℕ = length (flat_map owned_numbers rows) in
    let e : 3 + k ≡ suc (suc (suc k)) = omega arith in
    ap (λ l. owned_numbers r ++ flat_map owned_numbers rows ++ l) (sym (drop-drop k 3 rest ∙ ap (λ i. drop i rest) e))

-- one number for a total that changes
pub body_changed : (rows : List (Owned Row)) (i : ℕ) (r : Owned Row) (z : ℤ) (rest : List ℕ) → IsNth rows i r
    → body (set rows i (owned r.desk (totalling r.row.currency z))) rest ≡ set (body rows rest) (2 + 3 * i) (total_number z)
unfolding flat_map
body_changed [] i r z rest e = absurd (none-nth i r e)
body_changed (q ∷ rows) zero r z rest e = let f : q ≡ r = cc in rw f
body_changed (q ∷ rows) (suc i) r z rest e =
    let f : 2 + 3 * suc i ≡ suc (suc (suc (2 + 3 * i))) = omega arith in
    rw f
    (body-first q (set rows i (owned r.desk (totalling r.row.currency z))) rest ∙ ap (λ l. owned_numbers q ++ l) (body_changed rows i r z (drop 3 rest) e)
    ∙ ap (λ l. set l (suc (suc (suc (2 + 3 * i)))) (total_number z)) (sym (body-first q rows rest)))

-- three for a row after all
abbrev pub stored : (place : ℕ) → (r : Owned Row) → List ℕ → List ℕ
stored j r l = set (set (set l j r.desk) (1 + j) (currency_number r.row.currency)) (2 + j) (total_number r.row.total)

stored_after : (j : ℕ) (q r : Owned Row) (l : List ℕ) → stored (3 + j) r (owned_numbers q ++ l) ≡ owned_numbers q ++ stored j r l
stored_after j q r l =
    let d : 3 + j ≡ suc (suc (suc j)) = omega arith in
    let e : 1 + (3 + j) ≡ suc (suc (suc (1 + j))) = omega arith in
    let f : 2 + (3 + j) ≡ suc (suc (suc (2 + j))) = omega arith in
    rw (f, e, d)

pub body_more : (rows : List (Owned Row)) (r : Owned Row) (rest : List ℕ) → 3 + 3 * length rows ≤ length rest
    → body (rows ++ r ∷ []) rest ≡ stored (3 * length rows) r (body rows rest)
unfolding flat_map
body_more [] r [] l = clash (omega arith)
body_more [] r (x ∷ []) l = clash (omega arith)
body_more [] r (x ∷ y ∷ []) l = clash (omega arith)
body_more [] r (x ∷ y ∷ z ∷ rest) l = refl
body_more (q ∷ rows) r rest l =
    let e : 3 + 3 * length rows ≡ 3 * suc (length rows) = omega arith in
    body-first q (rows ++ r ∷ []) rest ∙ ap (λ l. owned_numbers q ++ l) (body_more rows r (drop 3 rest) (omega (arith, length-drop 3 rest)))
    ∙ sym (stored_after (3 * length rows) q r (body rows (drop 3 rest))) ∙ ap₂ (λ j l. stored j r l) e (sym (body-first q rows rest))
