-- A desk's part of lent numbers, taken row by row.
use Rattle.std.proofs.Common.{◌≡◌, ℕ, suc, ◌+◌, ◌-◌, ◌*◌, ◌^◌, ◌<◌, ◌≤◌, min, Bool, true, false, cond, ◌||◌, eqb, ltb, List, [], ◌∷◌, ◌++◌, map, length, get_or, drop, set, sym, refl, ap, ◌∙◌, ap₂, append_assoc, append-nil, add-one, arith, length-append, length-set, length-take-le, take-suc-set, ltb-false, ltb-true, lt-ltb, eq-eqb, ne_eqb}
use lib.ListN.{length-map}
use Rattle.rules.specs.Basics.{every}
use Rattle.rules.specs.Totals.{Row as RulesRow, Table as RulesTable, counting, table, is_damaged}
use Rattle.rules.specs.TotalNumbers.{is64}
use Rattle.rules.specs.Desks.{Owned, owned, rows_for, counts_for, part_of}
use Rattle.rules.specs.DeskNumbers.{rows_in, counts_at, shared_in}
use Rattle.rules.proofs.Tests.{both_true}
use Rattle.totals.specs.declared.Row.{Row}
use Rattle.totals.specs.declared.Table.{Table}
use Rattle.totals.specs.Tables.{row_meant, counts_meant, held_rows, table_meant, are_totals, Holds}
use Rattle.totals.proofs.Owners.{row_at, next_row, meant, rows-meant}

-- numbers of 64 bits
pub all_64 : (l : List ℕ) → ((i : ℕ) → get_or l i 0 < 2 ^ 64) → every is64 l ≡ true
unfolding every
all_64 [] h = refl
all_64 (n ∷ l) h = rw (lt-ltb n (2 ^ 64) (h 0), all_64 l (λ i. h (suc i)))

pub map_more : (l : List Row) (r : Row) → map row_meant (l ++ r ∷ []) ≡ map row_meant l ++ row_meant r ∷ []
map_more [] r = refl
map_more (q ∷ l) r = ap (λ m. row_meant q ∷ m) (map_more l r)

pub totals_more : (l : List Row) (r : Row) → are_totals l ≡ true → r.total < 2 ^ 64 → are_totals (l ++ r ∷ []) ≡ true
unfolding every
totals_more [] r h b = rw (lt-ltb r.total (2 ^ 64) b)
totals_more (q ∷ l) r h b = let (i, j) = both_true (is64 q.total) (are_totals l) h in rw (i, totals_more l r j b)

-- the rows from the k-th on: that one, and those after it
module _ (numbers : List ℕ) where
  abbrev from : (n k : ℕ) → List (Owned RulesRow)
  from n k = rows_in (n - k) (drop (7 + 3 * k) numbers)

  next-meant : (n k : ℕ) → k < n → from n k ≡ owned (get_or numbers (7 + 3 * k) 0) (row_meant (row_at numbers k)) ∷ from n (k + 1)
  next-meant n k h =
      sym (rows-meant (n - k) (drop (7 + 3 * k) numbers)) ∙ ap (map meant) (next_row numbers n k h)
      ∙ ap (λ l. owned (get_or numbers (7 + 3 * k) 0) (row_meant (row_at numbers k)) ∷ l) (rows-meant (n - (k + 1)) (drop (7 + 3 * (k + 1)) numbers))

  module _ (desk : ℕ) where
    next_own : (n k : ℕ) → k < n → get_or numbers (7 + 3 * k) 0 ≡ desk → rows_for desk (from n k) ≡ row_meant (row_at numbers k) ∷ rows_for desk (from n (k + 1))
    unfolding rows_for
    next_own n k h e = ap (rows_for desk) (next-meant n k h) ∙ rw (eq-eqb (get_or numbers (7 + 3 * k) 0) desk e) refl

    next-other : (n k : ℕ) → k < n → (get_or numbers (7 + 3 * k) 0 ≡ desk → ⊥) → rows_for desk (from n k) ≡ rows_for desk (from n (k + 1))
    unfolding rows_for
    next-other n k h e = ap (rows_for desk) (next-meant n k h) ∙ rw (ne_eqb (get_or numbers (7 + 3 * k) 0) desk e) refl

-- what is taken of the first k rows, and what is to come
pub record SoFar (numbers : List ℕ) (desk n : ℕ) (t : Table) (k : ℕ) : Type 0 where
  pub long : length t.rows ≡ 16
  pub few : t.held ≤ 16
  pub high : k ≤ n
  pub counts : counts_meant t ≡ counts_for desk (shared_in numbers)
  pub rows : map row_meant (held_rows t) ++ rows_for desk (rows_in (n - k) (drop (7 + 3 * k) numbers)) ≡ rows_for desk (rows_in n (drop 7 numbers))
  pub bits : are_totals (held_rows t) ≡ true

-- with one row more, and with too many
abbrev pub taking : Table → Row → Table
taking t r = record { rows = set t.rows t.held r; held = t.held + 1; added = t.added; null = t.null; refused = t.refused }

abbrev pub overfull : Table → Table
overfull t = record { rows = t.rows; held = 17; added = t.added; null = t.null; refused = t.refused }

module _ (numbers : List ℕ) (desk n : ℕ) where
  pub begin : (t : Table) → length t.rows ≡ 16 → t.held ≡ 0 → counts_meant t ≡ counts_for desk (shared_in numbers) → SoFar numbers desk n t 0
  unfolding every
  begin t l h c = record { long = l; few = omega (arith, h); high = omega arith; counts = c; rows = let e : n - 0 ≡ n = omega arith in rw (h, e) refl; bits = rw h refl }

  module _ (t : Table) (k : ℕ) (s : SoFar numbers desk n t k) where
    pub skip : k < n → (get_or numbers (7 + 3 * k) 0 ≡ desk → ⊥) → SoFar numbers desk n t (k + 1)
    skip h e = record {
      long = s.long;
      few = s.few;
      high = omega (arith, h);
      counts = s.counts;
      rows = ap (λ l. map row_meant (held_rows t) ++ l) (sym (next-other numbers desk n k h e)) ∙ s.rows;
      bits = s.bits;
    }

    pub more : k < n → get_or numbers (7 + 3 * k) 0 ≡ desk → t.held < 16 → get_or numbers (9 + 3 * k) 0 < 2 ^ 64 → SoFar numbers desk n (taking t (row_at numbers k)) (k + 1)
    more h e l b =
        let r = row_at numbers k in
        let rest = rows_for desk (rows_in (n - (k + 1)) (drop (7 + 3 * (k + 1)) numbers)) in
        let f : held_rows (taking t r) ≡ held_rows t ++ r ∷ [] = rw add-one (take-suc-set t.rows t.held r (omega (arith, s.long))) in
        record {
          long = length-set t.rows t.held r ∙ s.long;
          few = omega (arith, l);
          high = omega (arith, h);
          counts = s.counts;
          rows =
              ap (λ l. map row_meant l ++ rest) f ∙ ap (λ l. l ++ rest) (map_more (held_rows t) r)
              ∙ append_assoc (map row_meant (held_rows t)) (row_meant r ∷ []) rest
              ∙ ap (λ l. map row_meant (held_rows t) ++ l) (sym (next_own numbers desk n k h e)) ∙ s.rows;
          bits = ap are_totals f ∙ totals_more (held_rows t) r s.bits b;
        }

    held-length : length (map row_meant (held_rows t)) ≡ t.held
    held-length = length-map (held_rows t) row_meant ∙ length-take-le t.held t.rows (omega (arith, s.few, s.long))

    module _ (few : n ≤ 32) (is-n : get_or numbers 0 0 ≡ n) where
      all-rows : rows_for desk (rows_in n (drop 7 numbers)) ≡ (part_of desk (shared_in numbers)).rows
      all-rows = let e : n ≡ min 33 (get_or numbers 0 0) = omega arith in ap (λ m. rows_for desk (rows_in m (drop 7 numbers))) e

      pub all_taken : n ≤ k → Holds (part_of desk (shared_in numbers)) t
      unfolding rows_in rows_for
      all_taken l =
          let e : n - k ≡ 0 = omega arith in
          let rows : map row_meant (held_rows t) ≡ (part_of desk (shared_in numbers)).rows =
          sym (append-nil (map row_meant (held_rows t))) ∙ ap (λ m. map row_meant (held_rows t) ++ rows_for desk (rows_in m (drop (7 + 3 * k) numbers))) (sym e) ∙ s.rows ∙ all-rows in
          record {
            held = omega (arith, s.few, ap length rows, held-length);
            says = λ f. ap₂ table rows s.counts;
            bits = λ f. s.bits;
          }

      pub too_many : k < n → get_or numbers (7 + 3 * k) 0 ≡ desk → t.held ≡ 16 → Holds (part_of desk (shared_in numbers)) (overfull t)
      too_many h e l =
          let rest = rows_for desk (rows_in (n - (k + 1)) (drop (7 + 3 * (k + 1)) numbers)) in
          let rows : map row_meant (held_rows t) ++ row_meant (row_at numbers k) ∷ rest ≡ (part_of desk (shared_in numbers)).rows =
          ap (λ l. map row_meant (held_rows t) ++ l) (sym (next_own numbers desk n k h e)) ∙ s.rows ∙ all-rows in
          record {
            held = omega (arith, l, ap length rows, held-length, length-append (map row_meant (held_rows t)) (row_meant (row_at numbers k) ∷ rest));
            says = λ f. absurd (omega (arith, f));
            bits = λ f. absurd (omega (arith, f));
          }

-- a table that holds another is damaged exactly if that is
over_16 : (x : RulesTable) → 16 < length x.rows → true ≡ is_damaged x
unfolding is_damaged
over_16 x l = rw (lt-ltb 16 (length x.rows) l) refl

pub judged : (x : RulesTable) (t : Table) → Holds x t → (ltb 16 t.held || is_damaged (table_meant t)) ≡ is_damaged x
judged x t h = go (ltb 16 t.held) refl
  where
    go : (b : Bool) → ltb 16 t.held ≡ b → (b || is_damaged (table_meant t)) ≡ is_damaged x
    go true e = over_16 x (omega (arith, h.held, ltb-true 16 t.held e))
    go false e = ap is_damaged (h.says (ltb-false 16 t.held e))

-- where the counts of a desk stand
pub at-most_four : (desk : ℕ) → cond (eqb desk 1) 1 4 ≤ 4
at-most_four desk = go (eqb desk 1)
  where
    go : (b : Bool) → cond b 1 4 ≤ 4
    go true = omega arith
    go false = omega arith

pub counts_taken : (numbers : List ℕ) (desk from : ℕ) → from ≡ cond (eqb desk 1) 1 4
    → counting (get_or numbers from 0) (get_or numbers (from + 1) 0) (get_or numbers (from + 2) 0) ≡ counts_for desk (shared_in numbers)
counts_taken numbers desk from e = rw e (go (eqb desk 1))
  where
    go : (b : Bool) → counting (get_or numbers (cond b 1 4) 0) (get_or numbers (cond b 1 4 + 1) 0) (get_or numbers (cond b 1 4 + 2) 0) ≡ cond b (counts_at 1 numbers) (counts_at 4 numbers)
    go true = refl
    go false = refl
