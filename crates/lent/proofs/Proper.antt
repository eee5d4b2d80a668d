-- An improper list as the code finds it, row by row and each with the one before it; and what a proper list is known to have.
use Rattle.std.proofs.Common.{◌≡◌, ℕ, zero, suc, ◌+◌, ◌-◌, ◌*◌, ◌/◌, ◌%◌, ◌<◌, ◌≤◌, Bool, true, false, not, ◌||◌, eqb, ltb, List, [], ◌∷◌, length, ℤ, sym, refl, ap, ◌∙◌, arith, ltb-false, ltb-true, le-ltb, lt-ltb, ne_eqb, eqb-true}
use mathlib.Core.Bool.{or-true, or-false, or_assoc}
use borrow.Author.Tests.{eqb-false, not-false}
use Rattle.rules.specs.Basics.{exists}
use Rattle.rules.specs.LentLists.{Row as PageRow, rows_of, is_kind, stretch_in, stretches_in, has_part_stretch, has_too_many, has_bad_kind, has_end_tick, has_inner_end, has_no_place, is_unparted, any_neighbours, is_improper, numbers_in, is_improper_list}
use Rattle.rules.proofs.Tests.{both_true, neither, clash}
use Rattle.rules.proofs.LentLists.{numbers_from-length}
use Rattle.lent.specs.declared.Row.{Row}
use Rattle.lent.specs.Rows.{row_at, row_of, is_faulty, is_clash}
use Rattle.lent.proofs.Numbers.{kind-signed}
use Rattle.lent.proofs.Rows.{rows_from, rows_from_length, rows_in}

-- ---- the clauses on rows and on two neighbours, row by row

-- what is wrong with the rows after one, and between them
unfoldable pub follows : PageRow → List PageRow → Bool
follows r [] = false
follows r (q ∷ qs) = is_clash r q || (is_faulty q || follows q qs)

-- what is wrong with rows, and between them
abbrev faulty : List PageRow → Bool
faulty [] = false
faulty (r ∷ rs) = is_faulty r || follows r rs

-- the same, clause by clause
abbrev clauses : List PageRow → Bool
clauses rows =
    exists has_bad_kind rows || exists has_end_tick rows || any_neighbours has_inner_end (stretches_in rows) || exists has_no_place (stretches_in rows) || any_neighbours is_unparted (stretches_in rows)

medial : (a b c d : Bool) → (a || b) || (c || d) ≡ (a || c) || (b || d)
medial true b c d = refl
medial false true c d = sym (or-true c)
medial false false c d = refl

-- the third of four before the second
place_first : (a i p u r : Bool) → a || i || p || u || r ≡ a || p || (i || u || r)
place_first true i p u r = refl
place_first false true true u r = refl
place_first false true false u r = refl
place_first false false p u r = or_assoc p u r

-- five tests of a first and of the rest
regroup : (k ks e es i is p ps u us : Bool) → (k || ks) || (e || es) || (i || is) || (p || ps) || (u || us) ≡ k || e || p || (i || u || (ks || es || is || ps || us))
regroup k ks e es i is p ps u us =
    rw (medial k ks e es, medial (k || e) (ks || es) i is, medial (k || e || i) (ks || es || is) p ps, medial (k || e || i || p) (ks || es || is || ps) u us)
    (place_first (k || e) i p u (ks || es || is || ps || us))

rows-faulty : (rows : List PageRow) → clauses rows ≡ faulty rows
unfolding exists any_neighbours stretches_in follows
rows-faulty [] = refl
rows-faulty (r ∷ []) = simp or-false
rows-faulty (r ∷ q ∷ rs) =
    let ss = stretches_in (q ∷ rs) in
    regroup (has_bad_kind r) (exists has_bad_kind (q ∷ rs)) (has_end_tick r) (exists has_end_tick (q ∷ rs)) (has_inner_end (stretch_in r) (stretch_in q)) (any_neighbours has_inner_end ss)
    (has_no_place (stretch_in r)) (exists has_no_place ss) (is_unparted (stretch_in r) (stretch_in q)) (any_neighbours is_unparted ss)
    ∙ ap (λ b. is_faulty r || (is_clash r q || b)) (rows-faulty (q ∷ rs))

-- ---- the list
improper_is : (numbers : List ℤ) → is_improper numbers ≡ has_part_stretch numbers || has_too_many (rows_of numbers) || faulty (rows_of numbers)
unfolding is_improper
improper_is numbers = go (has_part_stretch numbers || has_too_many (rows_of numbers)) _ _ _ _ _ ∙ ap (has_part_stretch numbers || has_too_many (rows_of numbers) ||◌) (rows-faulty (rows_of numbers))
  where
    go : (m k e i p u : Bool) → m || k || e || i || p || u ≡ m || (k || e || i || p || u)
    go true k e i p u = refl
    go false k e i p u = refl

-- a list of n stretches: over 32 of them, or something wrong in one or between two
list-is : (list : List ℕ) (n : ℕ) → length list ≡ 32 * n → is_improper_list list ≡ ltb 32 n || faulty (rows_from list 0 n)
list-is list n h =
    let e : length list % 8 ≡ 0 = omega arith in
    let g : length list / 8 ≡ 4 * n = omega arith in
    let f : length (numbers_in list) % 4 ≡ 0 = fours (numbers_from-length (length list / 8) list ∙ g) in
    rw (e, improper_is (numbers_in list), f, rows_in list n h, rows_from_length list 0 n)
  where
    fours : {m : ℕ} → m ≡ 4 * n → m % 4 ≡ 0
    fours e = omega arith

-- a length that isn't 32 bytes a stretch
pub improper_part : (list : List ℕ) → (length list % 32 ≡ 0 → ⊥) → is_improper_list list ≡ true
improper_part list h = go (eqb (length list % 8) 0) refl
  where
    go : (b : Bool) → eqb (length list % 8) 0 ≡ b → not b || is_improper (numbers_in list) ≡ true
    go true e = rw (improper_is (numbers_in list), ne_eqb (length (numbers_in list) % 4) 0 (λ f. h (omega (arith, eqb-true, numbers_from-length (length list / 8) list))))
    go false e = refl

pub improper_long : (list : List ℕ) → length list % 32 ≡ 0 → 1024 < length list → is_improper_list list ≡ true
improper_long list e h = list-is list (length list / 32) (omega arith) ∙ rw (lt-ltb 32 (length list / 32) (omega arith))

pub proper-empty : (list : List ℕ) → length list ≡ 0 → is_improper_list list ≡ false
unfolding rows_from
proper-empty list h = list-is list 0 (omega arith)

-- the row before the k-th of n is good, and the list is improper exactly if something is wrong from the k-th on, or between the two
pub record Left (list : List ℕ) (r : Row) (k n : ℕ) : Type 0 where
  pub good : is_faulty (row_of r) ≡ false
  pub decides : is_improper_list list ≡ follows (row_of r) (rows_from list k (n - k))

module _ (list : List ℕ) (n : ℕ) (h : length list ≡ 32 * n) (p : 0 < n) (l : n ≤ 32) (r : Row) (e : r ≡ row_at list 0) where
  first-row : is_improper_list list ≡ is_faulty (row_of r) || follows (row_of r) (rows_from list 1 (n - 1))
  unfolding rows_from
  first-row = let m : n ≡ suc (n - 1) = omega arith in rw e (list-is list n h ∙ rw (le-ltb 32 n l) (ap (λ i. faulty (rows_from list 0 i)) m))

  pub first-bad : is_faulty (row_of r) ≡ true → is_improper_list list ≡ true
  first-bad f = first-row ∙ rw f

  pub first_good : is_faulty (row_of r) ≡ false → Left list r 1 n
  first_good f = record { good = f; decides = first-row ∙ rw f }

module _ (list : List ℕ) (n k : ℕ) (l : k < n) (r : Row) (f : Left list r k n) (q : Row) (e : q ≡ row_at list k) where
  next_row : is_improper_list list ≡ is_clash (row_of r) (row_of q) || (is_faulty (row_of q) || follows (row_of q) (rows_from list (k + 1) (n - (k + 1))))
  unfolding rows_from follows
  next_row = let m : n - k ≡ suc (n - (k + 1)) = omega arith in f.decides ∙ rw (m, e)

  pub next-bad : is_faulty (row_of q) ≡ true → is_improper_list list ≡ true
  next-bad g = next_row ∙ rw g (or-true (is_clash (row_of r) (row_of q)))

  pub next_unparted : is_clash (row_of r) (row_of q) ≡ true → is_improper_list list ≡ true
  next_unparted g = next_row ∙ rw g

  pub next_good : is_faulty (row_of q) ≡ false → is_clash (row_of r) (row_of q) ≡ false → Left list q (k + 1) n
  next_good g d = record { good = g; decides = next_row ∙ rw (g, d) }

pub none_left : (list : List ℕ) (n k : ℕ) → n ≤ k → (r : Row) → Left list r k n → is_improper_list list ≡ false
unfolding rows_from follows
none_left list n k l r f = let m : n - k ≡ 0 = omega arith in rw m at f.decides

-- ---- what a proper list is known to have
pub proper-length : (list : List ℕ) → is_improper_list list ≡ false → (length list % 32 ≡ 0) × (length list ≤ 1024)
proper-length list h = go (eqb (length list % 32) 0) refl
  where
    go : (b : Bool) → eqb (length list % 32) 0 ≡ b → (length list % 32 ≡ 0) × (length list ≤ 1024)
    go true e =
        let f = eqb-true (length list % 32) 0 e in
        let g = ltb-false 32 (length list / 32) (neither (ltb 32 (length list / 32)) _ (sym (list-is list (length list / 32) (omega arith)) ∙ h)).0 in
        (f, omega arith)
    go false e = clash (cc (improper_part list (eqb-false (length list % 32) 0 e)))

-- a row that is a stretch's
pub good_kinds : (r : Row) → is_faulty (row_of r) ≡ false → (r.low_kind < 3) × (r.high_kind < 3)
good_kinds r h =
    let (a, b) = neither (has_bad_kind (row_of r) || has_end_tick (row_of r)) _ h in
    let (d, e) = neither (has_bad_kind (row_of r)) _ a in
    let (f, g) = both_true (is_kind (row_of r).low_kind) (is_kind (row_of r).high_kind) (not-false _ d) in
    (ltb-true _ 3 (sym (kind-signed r.low_kind) ∙ f), ltb-true _ 3 (sym (kind-signed r.high_kind) ∙ g))

rest_good : (r : PageRow) (rs : List PageRow) → faulty (r ∷ rs) ≡ false → faulty rs ≡ false
unfolding follows
rest_good r [] h = refl
rest_good r (q ∷ qs) h = (neither (is_clash r q) _ (neither (is_faulty r) _ h).1).1

row_good : (list : List ℕ) (j n k : ℕ) → faulty (rows_from list j n) ≡ false → k < n → is_faulty (row_of (row_at list (j + k))) ≡ false
unfolding rows_from
row_good list j zero k h l = absurd (omega arith)
row_good list j (suc n) zero h l = let e : j + 0 ≡ j = omega arith in rw e (neither (is_faulty (row_of (row_at list j))) _ h).0
row_good list j (suc n) (suc k) h l = let e : j + suc k ≡ j + 1 + k = omega arith in rw e (row_good list (j + 1) n k (rest_good (row_of (row_at list j)) (rows_from list (j + 1) n) h) (omega arith))

-- each row of a proper list is a stretch's
pub proper-row : (list : List ℕ) (k : ℕ) → is_improper_list list ≡ false → 32 * k + 32 ≤ length list → is_faulty (row_of (row_at list k)) ≡ false
proper-row list k h l =
    let n = length list / 32 in
    let p = proper-length list h in
    let e : 0 + k ≡ k = omega arith in
    rw e at (row_good list 0 n k (neither (ltb 32 n) _ (sym (list-is list n (omega arith)) ∙ h)).1 (omega arith))

pub proper-kinds : (list : List ℕ) (k : ℕ) → is_improper_list list ≡ false → 32 * k + 32 ≤ length list → ((row_at list k).low_kind < 3) × ((row_at list k).high_kind < 3)
proper-kinds list k h l = good_kinds (row_at list k) (proper-row list k h l)
