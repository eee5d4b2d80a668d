-- The rows of a table one by one: by their places, those of a desk, and how many they are.
use Prim.Native.Nat.{ℕ, zero, suc, ◌+◌, ◌*◌, ◌^◌, ◌≤◌, ◌<◌, min}
use mathlib.Core.Path.{◌≡◌, refl, sym, ◌∙◌, ap}
use mathlib.Core.Bool.{Bool, true, false, not, ◌&&◌, ◌||◌, cond}
use mathlib.Core.List.{List, [], ◌∷◌}
use native.Mathlib.Omega.{arith}
use borrow.Author.Tests.{ltb-true, lt-ltb, eqb-true}
use lib.Dec.{eqb}
use lib.ListN.{length, take, drop, get_or}
use lib.Seq.{get_or-drop, drop-nil}
use Rattle.rules.specs.Basics.{exists, every}
use Rattle.rules.specs.Forms.{is_currency}
use Rattle.rules.specs.Totals.{Row, is_in_range, is_of, is_held, is_held_twice}
use Rattle.rules.specs.TotalNumbers.{is64, row_in}
use Rattle.rules.specs.Desks.{Owned, owned, rows_for}
use Rattle.rules.specs.DeskNumbers.{rows_in, shared_in}
use Rattle.rules.proofs.Tests.{clash, both_true, every_true, neither, eqb_refl}
use Rattle.rules.proofs.DeskNumbers.{rows-length}
use Rattle.demands.specs.Desks.{held_in, desk_at, currency_at, total_at, how_many_of}

-- a row of a currency of wrong form, and one with a total out of range
abbrev pub is_unformed : Row → Bool
is_unformed r = not (is_currency r.currency)

abbrev pub is_outside : Row → Bool
is_outside r = not (is_in_range r.total)

-- a is the i-th of a list
abbrev pub IsNth : {A : Type 0} → List A → ℕ → A → Type 0
IsNth l i a = take 1 (drop i l) ≡ a ∷ []

module _ {A : Type 0} where
  pub none-nth : (i : ℕ) (a : A) → IsNth [] i a → ⊥
  none-nth i a e = let z = drop-nil {A = A} i in clash (cc)

  nth-below : (l : List A) (i : ℕ) (a : A) → IsNth l i a → i < length l
  nth-below [] i a e = absurd (none-nth i a e)
  nth-below (x ∷ l) zero a e = omega arith
  nth-below (x ∷ l) (suc i) a e = let h = nth-below l i a e in omega arith

  -- what is found is one of them, and if nothing is found, none of them
  pub some-nth : (p : A → Bool) (l : List A) → exists p l ≡ true → (i : ℕ) × (a : A) × IsNth l i a × (p a ≡ true)
  unfolding exists
  some-nth p [] h = clash (cc)
  some-nth p (x ∷ l) h = go (p x) refl h (some-nth p l)
    where
      go : (b : Bool) → p x ≡ b → (b || exists p l) ≡ true → (exists p l ≡ true → (i : ℕ) × (a : A) × IsNth l i a × (p a ≡ true)) → (i : ℕ) × (a : A) × IsNth (x ∷ l) i a × (p a ≡ true)
      go true e h below = (0, x, refl, e)
      go false e h below = let (i, a, f, g) = below h in (suc i, a, f, g)

  pub no_nth : (p : A → Bool) (l : List A) → exists p l ≡ false → (i : ℕ) (a : A) → IsNth l i a → p a ≡ false
  unfolding exists
  no_nth p [] h i a e = absurd (none-nth i a e)
  no_nth p (x ∷ l) h zero a e = let z : a ≡ x = cc in rw z (neither (p x) (exists p l) h).0
  no_nth p (x ∷ l) h (suc i) a e = no_nth p l (neither (p x) (exists p l) h).1 i a e

-- the rows of a desk
module _ (n : ℕ) where
  abbrev is_own : {A : Type 0} → (A → Bool) → Owned A → Bool
  is_own p r = eqb r.desk n && p r.row

  own_exists : {A : Type 0} (p : A → Bool) (rows : List (Owned A)) → exists p (rows_for n rows) ≡ exists (is_own p) rows
  unfolding exists rows_for
  own_exists p [] = refl
  own_exists p (r ∷ rows) = go (eqb r.desk n) (own_exists p rows)
    where
      go : (b : Bool) → exists p (rows_for n rows) ≡ exists (is_own p) rows → exists p (cond b (r.row ∷ rows_for n rows) (rows_for n rows)) ≡ (b && p r.row || exists (is_own p) rows)
      go true e = ap (λ x. p r.row || x) e
      go false e = e

  pub some_own : {A : Type 0} (p : A → Bool) (rows : List (Owned A)) → exists p (rows_for n rows) ≡ true → (i : ℕ) × (r : A) × IsNth rows i (owned n r) × (p r ≡ true)
  some_own p rows h =
      let (i, r, e, f) = some-nth (is_own p) rows (sym (own_exists p rows) ∙ h) in
      let (g, k) = both_true (eqb r.desk n) (p r.row) f in
      (i, r.row, e ∙ ap (λ d. owned d r.row ∷ []) (eqb-true r.desk n g), k)

  pub no_own : {A : Type 0} (p : A → Bool) (rows : List (Owned A)) → exists p (rows_for n rows) ≡ false → (i : ℕ) (r : A) → IsNth rows i (owned n r) → p r ≡ false
  no_own p rows h i r e = sym (ap (λ b. b && p r) (eqb_refl n)) ∙ no_nth (is_own p) rows (sym (own_exists p rows) ∙ h) i (owned n r) e

  -- two of them with one currency, the later after the earlier
  pub some_twice : (rows : List (Owned Row)) → is_held_twice (rows_for n rows) ≡ true
      → (i j : ℕ) × (q r : Row) × (i < j) × IsNth rows i (owned n q) × IsNth rows j (owned n r) × (is_of q.currency r ≡ true)
  unfolding is_held_twice rows_for
  some_twice [] h = clash (cc)
  some_twice (x ∷ rows) h = go (eqb x.desk n) refl h (some_twice rows)
    where
      Twice : List (Owned Row) → Type 0
      Twice l = (i j : ℕ) × (q r : Row) × (i < j) × IsNth l i (owned n q) × IsNth l j (owned n r) × (is_of q.currency r ≡ true)

      later : Twice rows → Twice (x ∷ rows)
      later (i, j, q, r, l, e, f, g) = (suc i, suc j, q, r, omega arith, e, f, g)

      by_first : (b : Bool) → eqb x.desk n ≡ true → is_held x.row.currency (rows_for n rows) ≡ b → (b || is_held_twice (rows_for n rows)) ≡ true → (is_held_twice (rows_for n rows) ≡ true → Twice rows) → Twice (x ∷ rows)
      by_first true d e h below =
          let (j, r, f, g) = some_own (is_of x.row.currency) rows e in
          (0, suc j, x.row, r, omega arith, ap (λ d. owned d x.row ∷ []) (eqb-true x.desk n d), f, g)
      by_first false d e h below = later (below h)

      go : (b : Bool) → eqb x.desk n ≡ b → is_held_twice (cond b (x.row ∷ rows_for n rows) (rows_for n rows)) ≡ true → (is_held_twice (rows_for n rows) ≡ true → Twice rows) → Twice (x ∷ rows)
      go true d h below = by_first (is_held x.row.currency (rows_for n rows)) d refl h below
      go false d h below = later (below h)

  pub no_twice : (rows : List (Owned Row)) → is_held_twice (rows_for n rows) ≡ false → (i j : ℕ) (q r : Row) → i < j → IsNth rows i (owned n q) → IsNth rows j (owned n r)
      → is_of q.currency r ≡ false
  unfolding is_held_twice rows_for
  no_twice [] h i j q r l e f = absurd (none-nth i (owned n q) e)
  no_twice (x ∷ rows) h i zero q r l e f = clash (omega arith)
  no_twice (x ∷ rows) h zero (suc j) q r l e f =
      let z : x ≡ owned n q = cc in
      let d : eqb x.desk n ≡ true = rw z (eqb_refl n) in
      let g = (neither (is_held x.row.currency (rows_for n rows)) _ (rw d at h)).0 in
      rw z at (no_own (is_of x.row.currency) rows g j r f)
  no_twice (x ∷ rows) h (suc i) (suc j) q r l e f = no_twice rows (go (eqb x.desk n) h) i j q r (omega arith) e f
    where
      go : (b : Bool) → is_held_twice (cond b (x.row ∷ rows_for n rows) (rows_for n rows)) ≡ false → is_held_twice (rows_for n rows) ≡ false
      go true h = (neither (is_held x.row.currency (rows_for n rows)) _ h).1
      go false h = h

-- the rows of some numbers
abbrev pub row_at : (numbers : List ℕ) → (i : ℕ) → Owned Row
row_at numbers i = owned (desk_at numbers i) (row_in (currency_at numbers i) (total_at numbers i))

row_in_lem : (k : ℕ) (l : List ℕ) (i : ℕ) → i < k → IsNth (rows_in k l) i (owned (get_or l (3 * i) 0) (row_in (get_or l (1 + 3 * i) 0) (get_or l (2 + 3 * i) 0)))
unfolding rows_in
row_in_lem zero l i h = clash (omega arith)
row_in_lem (suc k) l zero h = refl
row_in_lem (suc k) l (suc i) h =
    let d : 3 * suc i ≡ 3 + 3 * i = omega arith in
    let e : 1 + 3 * suc i ≡ 3 + (1 + 3 * i) = omega arith in
    let f : 2 + 3 * suc i ≡ 3 + (2 + 3 * i) = omega arith in
    rw (f, e, d, ← get_or-drop 3 l (3 * i) 0, ← get_or-drop 3 l (1 + 3 * i) 0, ← get_or-drop 3 l (2 + 3 * i) 0) (row_in_lem k (drop 3 l) i (omega arith))

nth-row : (numbers : List ℕ) (k i : ℕ) → i < k → IsNth (rows_in k (drop 7 numbers)) i (row_at numbers i)
nth-row numbers k i h =
    let e : 8 + 3 * i ≡ 7 + (1 + 3 * i) = omega arith in
    let f : 9 + 3 * i ≡ 7 + (2 + 3 * i) = omega arith in
    rw (f, e, ← get_or-drop 7 numbers (3 * i) 0, ← get_or-drop 7 numbers (1 + 3 * i) 0, ← get_or-drop 7 numbers (2 + 3 * i) 0) (row_in_lem k (drop 7 numbers) i h)

-- each place of them is of such a row
row_is : (numbers : List ℕ) (k i : ℕ) (r : Owned Row) → IsNth (rows_in k (drop 7 numbers)) i r → (i < k) × (r ≡ row_at numbers i)
row_is numbers k i r e =
    let l : i < k = omega (arith, nth-below (rows_in k (drop 7 numbers)) i r e, rows-length k (drop 7 numbers)) in
    let f = nth-row numbers k i l in
    (l, cc)

-- numbers of 64 bits
pub small_at : (numbers : List ℕ) → every is64 numbers ≡ true → (i : ℕ) → get_or numbers i 0 < 2 ^ 64
unfolding every
small_at [] h i = omega arith
small_at (x ∷ numbers) h zero = ltb-true x (2 ^ 64) (every_true is64 x numbers h).0
small_at (x ∷ numbers) h (suc i) = small_at numbers (every_true is64 x numbers h).1 i

pub all_small : (numbers : List ℕ) → ((i : ℕ) → get_or numbers i 0 < 2 ^ 64) → every is64 numbers ≡ true
unfolding every
all_small [] h = refl
all_small (x ∷ numbers) h = rw (lt-ltb x (2 ^ 64) (h 0), all_small numbers (λ i. h (suc i)))

-- how many of them are a desk's
module _ (n : ℕ) where
  one_more : {A : Type 0} (b : Bool) (x : A) (l : List A) → length (cond b (x ∷ l) l) ≡ length l + cond b 1 0
  one_more true x l = omega arith
  one_more false x l = omega arith

  count_more : (k : ℕ) (l : List ℕ) → length (rows_for n (rows_in (suc k) l)) ≡ length (rows_for n (rows_in k l)) + cond (eqb (get_or l (3 * k) 0) n) 1 0
  unfolding rows_in rows_for
  count_more zero l = one_more (eqb (get_or l 0 0) n) _ []
  count_more (suc k) l =
      let e : 3 * suc k ≡ 3 + 3 * k = omega arith in
      let first = one_more (eqb (get_or l 0 0) n) (row_in (get_or l 1 0) (get_or l 2 0)) in
      let below = count_more k (drop 3 l) in
      rw (e, ← get_or-drop 3 l (3 * k) 0) (omega (arith, first (rows_for n (rows_in (suc k) (drop 3 l))), first (rows_for n (rows_in k (drop 3 l)))))

  how_many : (numbers : List ℕ) (k : ℕ) → how_many_of n numbers k ≡ length (rows_for n (rows_in k (drop 7 numbers)))
  unfolding how_many_of rows_in rows_for
  how_many numbers zero = refl
  how_many numbers (suc k) = rw (← get_or-drop 7 numbers (3 * k) 0, how_many numbers k) (sym (count_more k (drop 7 numbers)))

-- a table of at most 32 rows has those that its numbers say
module _ (numbers : List ℕ) (few : length (shared_in numbers).rows ≤ 32) where
  abbrev rows : List (Owned Row)
  rows = (shared_in numbers).rows

  held-min : min 33 (held_in numbers) ≡ held_in numbers
  held-min = omega (arith, rows-length (min 33 (held_in numbers)) (drop 7 numbers))

  rows_are : rows ≡ rows_in (held_in numbers) (drop 7 numbers)
  rows_are = ap (λ k. rows_in k (drop 7 numbers)) held-min

  pub held-is : length rows ≡ held_in numbers
  held-is = rows-length (min 33 (held_in numbers)) (drop 7 numbers) ∙ held-min

  pub nth-held : (i : ℕ) → i < held_in numbers → IsNth rows i (row_at numbers i)
  nth-held i l = rw rows_are (nth-row numbers (held_in numbers) i l)

  pub held-nth : (i : ℕ) (r : Owned Row) → IsNth rows i r → (i < held_in numbers) × (r ≡ row_at numbers i)
  held-nth i r e = row_is numbers (held_in numbers) i r (rw rows_are at e)

  pub own_many : (n : ℕ) → length (rows_for n rows) ≡ how_many_of n numbers (held_in numbers)
  own_many n = rw (rows_are, how_many n numbers (held_in numbers))
