-- A damaged table, row by row.
use Rattle.std.proofs.Common.{◌≡◌, ℕ, zero, suc, ◌+◌, ◌<◌, ◌≤◌, Bool, true, false, not, ◌&&◌, ◌||◌, ltb, List, [], ◌∷◌, map, length, get_or, take, sym, refl, ap, ◌∙◌, arith, length-take-le, get_or-take, take-take, ltb-false, le-ltb}
use native.Mathlib.Decide.{dec_le}
use borrow.Author.Tests.{not-false}
use lib.ListN.{length-map}
use Rattle.rules.specs.Basics.{exists, same}
use Rattle.rules.specs.Forms.{is_currency}
use Rattle.rules.specs.Totals.{Row as RulesRow, Table as RulesTable, Counts, table, counted, is_in_range, is_held, is_held_twice, is_damaged}
use Rattle.rules.specs.TotalNumbers.{currency_in, total_in}
use Rattle.rules.proofs.Tests.{clash, neither, both_true, same_sym}
use Rattle.totals.specs.declared.Row.{Row}
use Rattle.totals.specs.declared.Table.{Table}
use Rattle.totals.specs.Tables.{blank, row_meant, held_rows, counts_meant, table_meant, place_of, is_bad}
use Rattle.totals.proofs.Places.{held_place, map_at, map-take}

-- what passes a test at a place, or at none
exists-at : {A : Type 0} (p : A → Bool) (l : List A) (k : ℕ) (d : A) → k < length l → p (get_or l k d) ≡ true → exists p l ≡ true
unfolding exists
exists-at p [] k d h e = clash (omega arith)
exists-at p (a ∷ l) zero d h e = rw e
exists-at p (a ∷ l) (suc k) d h e = go (p a) (exists-at p l k d (omega arith) e)
  where
    go : (b : Bool) → exists p l ≡ true → (b || exists p l) ≡ true
    go true f = refl
    go false f = f

exists-none : {A : Type 0} (p : A → Bool) (l : List A) (d : A) → ((k : ℕ) → k < length l → p (get_or l k d) ≡ false) → exists p l ≡ false
unfolding exists
exists-none p [] d h = refl
exists-none p (a ∷ l) d h = rw (h 0 (omega arith), exists-none p l d (λ k i. h (suc k) (omega arith)))

-- the k-th row is of no currency, out of range, or of a currency of one before it
abbrev none : RulesRow
none = row_meant blank

abbrev bad_in : List RulesRow → ℕ → Bool
bad_in rows k =
    let r : RulesRow = get_or rows k none in
    not (is_currency r.currency && is_in_range r.total) || is_held r.currency (take k rows)

-- a currency held before
twice_at : (rows : List RulesRow) (k : ℕ) → k < length rows → is_held (get_or rows k none).currency (take k rows) ≡ true → is_held_twice rows ≡ true
unfolding exists is_held_twice
twice_at [] k h e = clash (omega arith)
twice_at (r ∷ rows) zero h e = clash (cc)
twice_at (r ∷ rows) (suc k) h e = go (same r.currency (get_or rows k none).currency) refl e (twice_at rows k (omega arith)) (is_held r.currency rows) refl
  where
    go : (b : Bool) → same r.currency (get_or rows k none).currency ≡ b → (b || is_held (get_or rows k none).currency (take k rows)) ≡ true
        → (is_held (get_or rows k none).currency (take k rows) ≡ true → is_held_twice rows ≡ true)
        → (x : Bool) → is_held r.currency rows ≡ x → (x || is_held_twice rows) ≡ true
    go b f e below true g = refl
    go true f e below false g =
        let i = exists-at (λ q. same q.currency r.currency) rows k none (omega arith) (same_sym (get_or rows k none).currency r.currency ∙ f) in clash (cc)
    go false f e below false g = below e

never_twice : (rows : List RulesRow) → ((k : ℕ) → k < length rows → is_held (get_or rows k none).currency (take k rows) ≡ false) → is_held_twice rows ≡ false
unfolding exists is_held_twice
never_twice [] h = refl
never_twice (r ∷ rows) h =
    let others : (k : ℕ) → k < length rows → (same (get_or rows k none).currency r.currency ≡ false) × (is_held (get_or rows k none).currency (take k rows) ≡ false) =
    λ k i. let (a, b) = neither (same r.currency (get_or rows k none).currency) (is_held (get_or rows k none).currency (take k rows)) (h (suc k) (omega arith)) in
    (same_sym (get_or rows k none).currency r.currency ∙ a, b) in
    rw (exists-none (λ q. same q.currency r.currency) rows none (λ k i. (others k i).0), never_twice rows (λ k i. (others k i).1))

-- one such row is damage
module _ (rows : List RulesRow) (n : Counts) where
  abbrev unformed : Bool
  unformed = exists (λ r. not (is_currency r.currency)) rows

  abbrev outside : Bool
  outside = exists (λ r. not (is_in_range r.total)) rows

  clauses : (a b c d e : Bool) → (b || (c || d)) ≡ true → (a || b || c || d || e) ≡ true
  clauses true b c d e h = refl
  clauses false true c d e h = refl
  clauses false false true d e h = refl
  clauses false false false true e h = refl
  clauses false false false false e h = clash (cc)

  pub one-bad : (k : ℕ) → k < length rows → bad_in rows k ≡ true → is_damaged (table rows n) ≡ true
  unfolding is_damaged
  one-bad k h e = clauses (ltb 16 (length rows)) unformed (is_held_twice rows) outside (ltb 1_000_000 (counted n))
      (go (is_currency (get_or rows k none).currency) (is_in_range (get_or rows k none).total) (is_held (get_or rows k none).currency (take k rows)) refl refl refl e)
    where
      left : (b c d : Bool) → b ≡ true → (b || (c || d)) ≡ true
      left b c d f = rw f

      middle : (b c d : Bool) → c ≡ true → (b || (c || d)) ≡ true
      middle true c d f = refl
      middle false c d f = rw f

      right : (b c d : Bool) → d ≡ true → (b || (c || d)) ≡ true
      right true c d f = refl
      right false true d f = refl
      right false false d f = f

      go : (x y z : Bool) → is_currency (get_or rows k none).currency ≡ x → is_in_range (get_or rows k none).total ≡ y → is_held (get_or rows k none).currency (take k rows) ≡ z
          → (not (x && y) || z) ≡ true
          → (unformed || (is_held_twice rows || outside)) ≡ true
      go false y z f g i e = left unformed (is_held_twice rows) outside (exists-at (λ r. not (is_currency r.currency)) rows k none h (rw f))
      go true false z f g i e = right unformed (is_held_twice rows) outside (exists-at (λ r. not (is_in_range r.total)) rows k none h (rw g))
      go true true true f g i e = middle unformed (is_held_twice rows) outside (twice_at rows k h i)
      go true true false f g i e = clash (cc)

  -- and a table without one is not damaged, if it has few rows and few are counted
  pub none-bad : length rows ≤ 16 → counted n ≤ 1_000_000 → ((k : ℕ) → k < length rows → bad_in rows k ≡ false) → is_damaged (table rows n) ≡ false
  unfolding is_damaged
  none-bad l m h =
      let parts : (k : ℕ) → k < length rows → (is_currency (get_or rows k none).currency ≡ true) × (is_in_range (get_or rows k none).total ≡ true) × (is_held (get_or rows k none).currency (take k rows) ≡ false) =
      λ k i. let (a, b) = neither _ _ (h k i) in let (c, d) = both_true _ _ (not-false _ a) in (c, d, b) in
      rw (
        le-ltb 16 (length rows) l,
        exists-none (λ r. not (is_currency r.currency)) rows none (λ k i. rw (parts k i).0),
        never_twice rows (λ k i. (parts k i).2),
        exists-none (λ r. not (is_in_range r.total)) rows none (λ k i. rw (parts k i).1),
        le-ltb 1_000_000 (counted n) m,
      )

-- as code asks of its rows
bad-meant : (rows : List Row) (k : ℕ) → k < length rows → is_bad rows k ≡ bad_in (map row_meant rows) k
bad-meant rows k h =
    let r = get_or rows k blank in
    rw (map_at rows k h, map-take rows k) (go (is_currency (currency_in r.currency)) (is_in_range (total_in r.total)) refl)
  where
    go : (x y : Bool) → is_currency (currency_in (get_or rows k blank).currency) ≡ x
        → (not (x && y) || ltb (place_of (get_or rows k blank).currency (take k rows)) k) ≡ (not (x && y) || is_held (currency_in (get_or rows k blank).currency) (map row_meant (take k rows)))
    go false y e = refl
    go true false e = refl
    go true true e = sym (held_place (get_or rows k blank).currency e (take k rows) ∙ ap (ltb (place_of (get_or rows k blank).currency (take k rows))) (length-take-le k rows (omega arith)))

module _ (t : Table) (long : length t.rows ≡ 16) (few : t.held ≤ 16) where
  pub held-length : length (map row_meant (held_rows t)) ≡ t.held
  held-length = length-map (held_rows t) row_meant ∙ length-take-le t.held t.rows (omega (arith, long))

  bad-held : (k : ℕ) → k < t.held → is_bad t.rows k ≡ bad_in (map row_meant (held_rows t)) k
  bad-held k h =
      let e : is_bad (held_rows t) k ≡ is_bad t.rows k = rw (get_or-take t.held t.rows k blank h, take-take k t.held t.rows (omega arith)) refl in
      sym e ∙ bad-meant (held_rows t) k (omega (arith, length-take-le t.held t.rows (omega (arith, long))))

  pub damaged-row : (k : ℕ) → k < t.held → is_bad t.rows k ≡ true → true ≡ (ltb 16 t.held || is_damaged (table_meant t))
  damaged-row k h e =
      rw (le-ltb 16 t.held few) (sym (one-bad (map row_meant (held_rows t)) (counts_meant t) k (omega (arith, held-length)) (sym (bad-held k h) ∙ e)))

  pub undamaged-rows : counted (counts_meant t) ≤ 1_000_000 → ((k : ℕ) → k < t.held → is_bad t.rows k ≡ false) → false ≡ (ltb 16 t.held || is_damaged (table_meant t))
  undamaged-rows m h =
      rw (le-ltb 16 t.held few)
      (sym (none-bad (map row_meant (held_rows t)) (counts_meant t) (omega (arith, held-length)) m (λ k i. let l : k < t.held = omega (arith, held-length) in sym (bad-held k l) ∙ h k l)))

-- too many rows, or too many counted
over_counted : (x : RulesTable) → true ≡ ltb 1_000_000 (counted x.counts) → true ≡ is_damaged x
unfolding is_damaged
over_counted x e = rw (← e) (last (ltb 16 (length x.rows)) (exists (λ r. not (is_currency r.currency)) x.rows) (is_held_twice x.rows) (exists (λ r. not (is_in_range r.total)) x.rows))
  where
    last : (a b c d : Bool) → true ≡ (a || b || c || d || true)
    last true b c d = refl
    last false true c d = refl
    last false false true d = refl
    last false false false true = refl
    last false false false false = refl

pub damaged_early : (t : Table) (b : Bool) → b ≡ ltb 1_000_000 (counted (counts_meant t)) → (ltb 16 t.held || b) ≡ true → true ≡ (ltb 16 t.held || is_damaged (table_meant t))
damaged_early t b e h = go (ltb 16 t.held) b refl e h
  where
    go : (x b : Bool) → ltb 16 t.held ≡ x → b ≡ ltb 1_000_000 (counted (counts_meant t)) → (x || b) ≡ true → true ≡ (x || is_damaged (table_meant t))
    go true b f e h = refl
    go false true f e h = over_counted (table_meant t) e
    go false false f e h = clash (cc)

pub not_early : (t : Table) (b : Bool) → b ≡ ltb 1_000_000 (counted (counts_meant t)) → (ltb 16 t.held || b) ≡ false
    → (t.held ≤ 16) × (counted (counts_meant t) ≤ 1_000_000)
not_early t b e h =
    let (x, y) = neither (ltb 16 t.held) b h in
    (ltb-false 16 t.held x, ltb-false 1_000_000 (counted (counts_meant t)) (sym e ∙ y))

-- one row more is not bad
pub not-bad_more : (rows : List Row) (k : ℕ) → ((j : ℕ) → j < k → is_bad rows j ≡ false) → is_bad rows k ≡ false → (j : ℕ) → j < k + 1 → is_bad rows j ≡ false
not-bad_more rows k h e j l = elim (dec_le (suc j) k) [
  | yes i ↦ h j i
  | no i ↦ let z : j ≡ k = omega arith in rw z e
]

-- the parts of a test of one row
module _ (rows : List Row) (k : ℕ) {x y : Bool} (e : x ≡ is_currency (currency_in (get_or rows k blank).currency)) (f : y ≡ is_in_range (total_in (get_or rows k blank).total)) where
  pub bad-before : {m : ℕ} → m ≡ place_of (get_or rows k blank).currency (take k rows) → (x && y) ≡ true → ltb m k ≡ is_bad rows k
  bad-before g h = let q = rw (e, f) at h in rw (q, g)

  pub bad-itself : (x && y) ≡ false → true ≡ is_bad rows k
  bad-itself h = let q = rw (e, f) at h in rw q
