-- A desk's rows put back among those of both, in place.
use Rattle.std.proofs.Common.{◌≡◌, ℕ, ◌+◌, ◌-◌, ◌*◌, ◌<◌, ◌≤◌, List, [], ◌∷◌, ◌++◌, map, length, get_or, take, drop, set, sym, refl, ap, ◌∙◌, add-one, arith, length-append, length-drop, length-set, drop_of_length-le, length-take-le, drop-cons, get_or-take, drop-drop, eq-eqb, ne_eqb}
use mathlib.Core.List.{flat_map}
use lib.ListN.{length-map}
use lib.Seq.{drop-append-add}
use Rattle.rules.specs.Desks.{Owned, owned, with_rows}
use Rattle.writer.specs.Placing.{placed}
use Rattle.writer.proofs.Placing.{placed-none, placed-cons, placed-append, placed-length}
use Rattle.totals.specs.declared.Row.{Row}
use Rattle.totals.specs.declared.Table.{Table}
use Rattle.totals.specs.Tables.{blank, held_rows}
use Rattle.totals.specs.Shares.{owned_in, held_in, owned_numbers}
use Rattle.totals.proofs.Owners.{row_at, rows_from, next_row}

-- a row put at a place
pub row_put : (numbers : List ℕ) (k a b c : ℕ) → length numbers ≡ 103 → k < 32
    → set (set (set numbers (7 + 3 * k) a) (8 + 3 * k) b) (9 + 3 * k) c ≡ placed (7 + 3 * k) (a ∷ b ∷ c ∷ []) numbers
row_put numbers k a b c l h =
    let x = set numbers (7 + 3 * k) a in
    let y = set x (8 + 3 * k) b in
    let m : length x ≡ length numbers = length-set numbers (7 + 3 * k) a in
    let n : length y ≡ length x = length-set x (8 + 3 * k) b in
    let e : 7 + 3 * k + 1 ≡ 8 + 3 * k = omega arith in
    let f : 8 + 3 * k + 1 ≡ 9 + 3 * k = omega arith in
    sym (placed-cons (7 + 3 * k) a (b ∷ c ∷ []) numbers (omega arith)
    ∙ ap (λ i. placed i (b ∷ c ∷ []) x) e ∙ placed-cons (8 + 3 * k) b (c ∷ []) x (omega arith)
    ∙ ap (λ i. placed i (c ∷ []) y) f ∙ placed-cons (9 + 3 * k) c [] y (omega arith) ∙ placed-none (9 + 3 * k + 1) (set y (9 + 3 * k) c))

-- the numbers of rows
abbrev numbers_of : List (Owned Row) → List ℕ
numbers_of = flat_map owned_numbers

numbers-length : (rows : List (Owned Row)) → length (numbers_of rows) ≡ 3 * length rows
unfolding flat_map
numbers-length [] = refl
numbers-length (r ∷ rows) = let e = numbers-length rows in omega arith

-- a row more is put, and the others are to come
next-put : (j : ℕ) (r : Owned Row) (rows : List (Owned Row)) (out : List ℕ) → length out ≡ 103 → j < 32
    → placed (7 + 3 * (j + 1)) (numbers_of rows) (placed (7 + 3 * j) (owned_numbers r) out) ≡ placed (7 + 3 * j) (numbers_of (r ∷ rows)) out
unfolding flat_map
next-put j r rows out l h =
    let e : 7 + 3 * (j + 1) ≡ 7 + 3 * j + 3 = omega arith in
    rw e (sym (placed-append (7 + 3 * j) (owned_numbers r) (numbers_of rows) out (omega arith)))

put-length : (j : ℕ) (r : Owned Row) (out : List ℕ) → length out ≡ 103 → j < 32 → length (placed (7 + 3 * j) (owned_numbers r) out) ≡ 103
put-length j r out l h = placed-length (7 + 3 * j) (owned_numbers r) out (omega arith) ∙ l

-- what stands past a row that is put stays
drop-placed : (at m : ℕ) (new out : List ℕ) → at + length new ≤ m → at ≤ length out → drop m (placed at new out) ≡ drop m out
drop-placed at m new out h l =
    let a : length (take at out ++ new) ≡ at + length new = length-append (take at out) new ∙ ap (λ x. x + length new) (length-take-le at out l) in
    let n = m - (at + length new) in
    let e : m ≡ length (take at out ++ new) + n = omega arith in
    let f : at + length new + n ≡ m = omega arith in
    ap (λ i. drop i (placed at new out)) e ∙ drop-append-add (take at out ++ new) (drop (at + length new) out) n ∙ drop-drop n (at + length new) out ∙ ap (λ i. drop i out) f

-- the rows of a table from the k-th on
rows_next : (t : Table) (k : ℕ) → length t.rows ≡ 16 → t.held ≤ 16 → k < t.held → drop k (held_rows t) ≡ get_or t.rows k blank ∷ drop (k + 1) (held_rows t)
rows_next t k l f h =
    let n = length-take-le t.held t.rows (omega arith) in
    drop-cons (held_rows t) k blank (omega arith) ∙ rw (get_or-take t.held t.rows k blank h, add-one) refl

rows_none : (t : Table) (k : ℕ) → length t.rows ≡ 16 → t.held ≤ 16 → t.held ≤ k → drop k (held_rows t) ≡ []
rows_none t k l f h = let n = length-take-le t.held t.rows (omega arith) in drop_of_length-le (held_rows t) {i = k} (omega arith)

-- the rest of a desk's rows, behind all others: the first so many are put
pub record RestSoFar (before : List ℕ) (desk : ℕ) (t : Table) (j k : ℕ) (out : List ℕ) (i at : ℕ) : Type 0 where
  pub high : i ≤ t.held
  pub place : at + (t.held - i) ≡ j + (t.held - k)
  pub room : length out ≡ 103
  pub rest : placed (7 + 3 * at) (numbers_of (map (owned desk) (drop i (held_rows t)))) out ≡ placed (7 + 3 * j) (numbers_of (map (owned desk) (drop k (held_rows t)))) before

module _ (before : List ℕ) (desk : ℕ) (t : Table) (j k : ℕ) where
  pub begin_rest : length before ≡ 103 → k ≤ t.held → RestSoFar before desk t j k before k j
  begin_rest l h = record { high = h; place = refl; room = l; rest = refl }

  module _ (long : length t.rows ≡ 16) (few : t.held ≤ 16) (fits : j + (t.held - k) ≤ 32) (out : List ℕ) (i at : ℕ) (s : RestSoFar before desk t j k out i at) where
    pub more_rest : i < t.held → RestSoFar before desk t j k (placed (7 + 3 * at) (owned_numbers (owned desk (get_or t.rows i blank))) out) (i + 1) (at + 1)
    more_rest h =
        let r = owned desk (get_or t.rows i blank) in
        let rows = map (owned desk) (drop (i + 1) (held_rows t)) in
        let l : at < 32 = omega (arith, s.place, h, fits) in
        record {
          high = omega (arith, h);
          place = omega (arith, s.place, h);
          room = put-length at r out s.room l;
          rest = next-put at r rows out s.room l ∙ ap (λ x. placed (7 + 3 * at) (numbers_of (map (owned desk) x)) out) (sym (rows_next t i long few h)) ∙ s.rest;
        }

    pub all_rest : t.held ≤ i → (at ≡ j + (t.held - k)) × (out ≡ placed (7 + 3 * j) (numbers_of (map (owned desk) (drop k (held_rows t)))) before)
    unfolding flat_map
    all_rest h = (
      omega (arith, s.place, h),
      sym (placed-none (7 + 3 * at) out) ∙ ap (λ x. placed (7 + 3 * at) (numbers_of (map (owned desk) x)) out) (sym (rows_none t i long few h)) ∙ s.rest,
    )

-- all rows: the first i are read, j are put, k of them of the table
pub record SoFar (before : List ℕ) (desk n : ℕ) (t : Table) (out : List ℕ) (i j k : ℕ) : Type 0 where
  pub high : i ≤ n
  pub behind : j ≤ i
  pub mine : k ≤ t.held
  pub room : length out ≡ 103
  pub size : j + length (with_rows desk (drop k (held_rows t)) (rows_from out n i)) ≡ length (with_rows desk (held_rows t) (held_in before))
  pub rest : placed (7 + 3 * j) (numbers_of (with_rows desk (drop k (held_rows t)) (rows_from out n i))) out ≡ placed 7 (numbers_of (with_rows desk (held_rows t) (held_in before))) before

module _ (before : List ℕ) (desk n : ℕ) (t : Table) where
  pub begin : length before ≡ 103 → get_or before 0 0 ≡ n → SoFar before desk n t before 0 0 0
  begin l e =
      let f : n - 0 ≡ n = omega arith in
      record { high = omega arith; behind = omega arith; mine = omega arith; room = l; size = rw (e, f) (omega arith); rest = rw (e, f) refl }

  module _ (long : length t.rows ≡ 16) (few : t.held ≤ 16) (fits : length (with_rows desk (held_rows t) (held_in before)) ≤ 32) (out : List ℕ) (i j k : ℕ) (s : SoFar before desk n t out i j k) where
    -- a row that is put leaves those that are still to be read
    read-on : (r : Owned Row) → j < 32 → rows_from (placed (7 + 3 * j) (owned_numbers r) out) n (i + 1) ≡ rows_from out n (i + 1)
    read-on r h = ap (owned_in (n - (i + 1))) (drop-placed (7 + 3 * j) (7 + 3 * (i + 1)) (owned_numbers r) out (omega (arith, s.behind)) (omega (arith, s.room)))

    -- one row put, and read
    put_one : (r : Owned Row) (m : ℕ) → i < n → m ≤ t.held → with_rows desk (drop k (held_rows t)) (rows_from out n i) ≡ r ∷ with_rows desk (drop m (held_rows t)) (rows_from out n (i + 1))
        → SoFar before desk n t (placed (7 + 3 * j) (owned_numbers r) out) (i + 1) (j + 1) m
    put_one r m h y e =
        let rows = with_rows desk (drop m (held_rows t)) (rows_from out n (i + 1)) in
        let l : j < 32 = omega (arith, s.size, ap length e, fits) in
        record {
          high = omega (arith, h);
          behind = omega (arith, s.behind);
          mine = y;
          room = put-length j r out s.room l;
          size = rw (read-on r l) (omega (arith, s.size, ap length e));
          rest = rw (read-on r l) (next-put j r rows out s.room l ∙ ap (λ x. placed (7 + 3 * j) (numbers_of x) out) (sym e) ∙ s.rest);
        }

    pub put-room : (r : Owned Row) (rows : List (Owned Row)) → with_rows desk (drop k (held_rows t)) (rows_from out n i) ≡ r ∷ rows → j < 32
    put-room r rows e = omega (arith, s.size, ap length e, fits)

    module _ (h : i < n) where
      pub other-next : (get_or out (7 + 3 * i) 0 ≡ desk → ⊥)
          → with_rows desk (drop k (held_rows t)) (rows_from out n i) ≡ owned (get_or out (7 + 3 * i) 0) (row_at out i) ∷ with_rows desk (drop k (held_rows t)) (rows_from out n (i + 1))
      unfolding with_rows
      other-next e = ap (with_rows desk (drop k (held_rows t))) (next_row out n i h) ∙ rw (ne_eqb (get_or out (7 + 3 * i) 0) desk e) refl

      pub own_next : get_or out (7 + 3 * i) 0 ≡ desk → k < t.held
          → with_rows desk (drop k (held_rows t)) (rows_from out n i) ≡ owned desk (get_or t.rows k blank) ∷ with_rows desk (drop (k + 1) (held_rows t)) (rows_from out n (i + 1))
      unfolding with_rows
      own_next e f = ap (with_rows desk (drop k (held_rows t))) (next_row out n i h) ∙ rw (eq-eqb (get_or out (7 + 3 * i) 0) desk e, rows_next t k long few f) refl

      own_none : get_or out (7 + 3 * i) 0 ≡ desk → t.held ≤ k
          → with_rows desk (drop k (held_rows t)) (rows_from out n i) ≡ with_rows desk (drop k (held_rows t)) (rows_from out n (i + 1))
      unfolding with_rows
      own_none e f = ap (with_rows desk (drop k (held_rows t))) (next_row out n i h) ∙ rw (eq-eqb (get_or out (7 + 3 * i) 0) desk e, rows_none t k long few f) refl

      pub put_other : (get_or out (7 + 3 * i) 0 ≡ desk → ⊥) → SoFar before desk n t (placed (7 + 3 * j) (owned_numbers (owned (get_or out (7 + 3 * i) 0) (row_at out i))) out) (i + 1) (j + 1) k
      put_other e = put_one (owned (get_or out (7 + 3 * i) 0) (row_at out i)) k h s.mine (other-next e)

      pub put_own : get_or out (7 + 3 * i) 0 ≡ desk → k < t.held → SoFar before desk n t (placed (7 + 3 * j) (owned_numbers (owned desk (get_or t.rows k blank))) out) (i + 1) (j + 1) (k + 1)
      put_own e f = put_one (owned desk (get_or t.rows k blank)) (k + 1) h (omega (arith, f)) (own_next e f)

      pub put-none : get_or out (7 + 3 * i) 0 ≡ desk → t.held ≤ k → SoFar before desk n t out (i + 1) j k
      put-none e f = record {
        high = omega (arith, h);
        behind = omega (arith, s.behind);
        mine = s.mine;
        room = s.room;
        size = ap (λ x. j + length x) (sym (own_none e f)) ∙ s.size;
        rest = ap (λ x. placed (7 + 3 * j) (numbers_of x) out) (sym (own_none e f)) ∙ s.rest;
      }

    -- all are read: the rest of the table's rows follow
    module _ (h : n ≤ i) where
      left : with_rows desk (drop k (held_rows t)) (rows_from out n i) ≡ map (owned desk) (drop k (held_rows t))
      unfolding with_rows owned_in
      left = let e : n - i ≡ 0 = omega arith in rw e refl

      left_length : length (map (owned desk) (drop k (held_rows t))) ≡ t.held - k
      left_length =
          length-map (drop k (held_rows t)) (owned desk) ∙ length-drop k (held_rows t)
          ∙ ap (λ m. m - k) (length-take-le t.held t.rows (omega (arith, few, long)))

      pub rest-room : j + (t.held - k) ≤ 32
      rest-room = omega (arith, s.size, ap length left, left_length, fits)

      pub all-put : {r : ℕ} {after : List ℕ} → r ≡ j + (t.held - k) → after ≡ placed (7 + 3 * j) (numbers_of (map (owned desk) (drop k (held_rows t)))) out
          → (r ≡ length (with_rows desk (held_rows t) (held_in before))) × (after ≡ placed 7 (numbers_of (with_rows desk (held_rows t) (held_in before))) before)
      all-put e f = (
        omega (arith, e, s.size, ap length left, left_length),
        f ∙ ap (λ x. placed (7 + 3 * j) (numbers_of x) out) (sym left) ∙ s.rest,
      )
