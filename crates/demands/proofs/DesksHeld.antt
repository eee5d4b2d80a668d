-- A currency that a desk holds, or does not, by the numbers of its rows.
use Prim.Native.Nat.{ℕ, zero, suc, ◌≤◌}
use mathlib.Core.Path.{◌≡◌, refl, sym, ◌∙◌, ap}
use mathlib.Core.Logic.{◌↔◌}
use mathlib.Core.Bool.{Bool, true, false, cond}
use mathlib.Core.List.{List, [], ◌∷◌}
use mathlib.Core.Option.{some}
use borrow.Author.Tests.{not-false}
use lib.Dec.{eqb}
use lib.ListN.{length}
use lib.IntN.{ℤ, ◌+ℤ◌}
use Rattle.rules.specs.Basics.{if_some, find, exists, same}
use Rattle.rules.specs.Forms.{is_currency}
use Rattle.rules.specs.Totals.{Row, is_in_range, is_of, is_held, is_held_twice, new_total}
use Rattle.rules.specs.TotalNumbers.{Lent, total_in, currency_in, row_in}
use Rattle.rules.specs.TotalDays.{HasNoRow}
use Rattle.rules.specs.Desks.{Owned, Shared, owned, is_desk, rows_for}
use Rattle.rules.specs.DeskNumbers.{shared_in}
use Rattle.rules.proofs.Tests.{clash, neither, same_true, same_refl, same_sym, eqb_refl}
use Rattle.rules.proofs.Desks.{Sound, sound_part}
use Rattle.rules.proofs.DeskNumbers.{at-most_32}
use Rattle.demands.specs.Totals.{IsTotal}
use Rattle.demands.specs.Desks.{held_in, currency_at, total_at, how_many_of, IsAt}
use Rattle.demands.proofs.TotalsNumbers.{letters_in, letters-read, total_in_lem, total-is}
use Rattle.demands.proofs.DesksRows.{is_outside, IsNth, none-nth, some_own, no_own, small_at, nth-held, held-nth, own_many}

-- the row of a currency that is held once is found
module _ (n : ℕ) (c : List ℕ) where
  found_row : (rows : List (Owned Row)) (i : ℕ) (r : Row) → IsNth rows i (owned n r) → is_of c r ≡ true → is_held_twice (rows_for n rows) ≡ false
      → find (is_of c) (rows_for n rows) ≡ some r
  unfolding find rows_for is_held_twice
  found_row [] i r e f h = absurd (none-nth i (owned n r) e)
  found_row (x ∷ rows) zero r e f h = let z : x ≡ owned n r = cc in rw (z, eqb_refl n, f)
  found_row (x ∷ rows) (suc i) r e f h = go (eqb x.desk n) h (found_row rows i r e f)
    where
      later : is_held x.row.currency (rows_for n rows) ≡ false → is_of c x.row ≡ false
      later g = same_sym x.row.currency c ∙ ap (λ d. same d x.row.currency) (sym (same_true r.currency c f)) ∙ no_own n (is_of x.row.currency) rows g i r e

      go : (b : Bool) → is_held_twice (cond b (x.row ∷ rows_for n rows) (rows_for n rows)) ≡ false
          → (is_held_twice (rows_for n rows) ≡ false → find (is_of c) (rows_for n rows) ≡ some r)
          → find (is_of c) (cond b (x.row ∷ rows_for n rows) (rows_for n rows)) ≡ some r
      go true h below = let (g, k) = neither (is_held x.row.currency (rows_for n rows)) _ h in rw (later g) (below k)
      go false h below = below h

-- that of one that is not held is the amount itself
pub total-new : (c : List ℕ) (z : ℤ) (rows : List Row) → is_held c rows ≡ false → new_total c z rows ≡ z
unfolding find exists
total-new c z [] h = refl
total-new c z (r ∷ rows) h = let (f, g) = neither (is_of c r) (is_held c rows) h in rw f (total-new c z rows g)

module _ (numbers : List ℕ) (lent : Lent 103 numbers) (p : Sound (shared_in numbers)) (n : ℕ) (h : is_desk n ≡ true) (c : List ℕ) where
  abbrev s : Shared
  s = shared_in numbers

  few : length s.rows ≤ 32
  few = at-most_32 s p

  -- the row at a place of the desk and the currency
  pub at_row : (i : ℕ) → IsAt numbers n c i
      → let r = row_in (currency_at numbers i) (total_at numbers i) in IsNth s.rows i (owned n r) × (is_of c r ≡ true)
  at_row i a = (rw (← a.desk) (nth-held numbers few i a.held), rw (letters-read c (currency_at numbers i) a.currency).1 (same_refl c))

  -- with an amount more its total is this
  pub total-at : (i : ℕ) → IsAt numbers n c i → {x : ℤ} → IsTotal x (total_at numbers i) → (z : ℤ) → new_total c z (rows_for n s.rows) ≡ x +ℤ z
  total-at i a {x} t z =
      let (e, f) = at_row i a in
      ap (λ o. if_some o (λ r. r.total +ℤ z) z) (found_row n c s.rows i _ e f (sound_part s p n h).once) ∙ ap (λ y. y +ℤ z) (total-is x (total_at numbers i) t).1

  pub none-held : is_held c (rows_for n s.rows) ≡ false → (i : ℕ) → IsAt numbers n c i → ⊥
  none-held e i a = let (f, g) = at_row i a in let k = no_own n (is_of c) s.rows e i _ f in clash (cc)

  module _ (form : is_currency c ≡ true) where
    row_at : (i : ℕ) (r : Row) → IsNth s.rows i (owned n r) → is_of c r ≡ true → IsAt numbers n c i × (r.total ≡ total_in (total_at numbers i))
    row_at i r e f =
        let (l, g) = held-nth numbers few i (owned n r) e in
        let k : currency_in (currency_at numbers i) ≡ c = sym (ap (λ q. q.row.currency) g) ∙ same_true r.currency c f in
        let w : is_currency (currency_in (currency_at numbers i)) ≡ true = rw k form in
        (record { held = l; desk = sym (ap (λ q. q.desk) g); currency = rw k at (letters_in (currency_at numbers i) w) }, ap (λ q. q.row.total) g)

    -- a place of it, if it is held
    pub held-row : is_held c (rows_for n s.rows) ≡ true → (i : ℕ) × IsAt numbers n c i × ((x : ℤ) × IsTotal x (total_at numbers i))
    held-row e =
        let (i, r, f, g) = some_own n (is_of c) s.rows e in
        let (a, k) = row_at i r f g in
        let w = not-false _ (no_own n is_outside s.rows (sound_part s p n h).within i r f) in
        (i, a, (total_in (total_at numbers i), total_in_lem (total_at numbers i) (small_at numbers lent.bits _) (sym (ap is_in_range k) ∙ w)))

    pub not-held : ((i : ℕ) → IsAt numbers n c i → ⊥) → is_held c (rows_for n s.rows) ≡ false
    not-held none = go (is_held c (rows_for n s.rows)) refl
      where
        go : (b : Bool) → is_held c (rows_for n s.rows) ≡ b → b ≡ false
        go true e = let (i, a, x) = held-row e in absurd (none i a)
        go false e = refl

    -- "the currency is new and 16 are held"
    pub has_no_row : HasNoRow c (rows_for n s.rows) ↔ ((i : ℕ) → IsAt numbers n c i → ⊥) × (how_many_of n numbers (held_in numbers) ≡ 16)
    has_no_row = (
      λ m. (none-held m.new, sym (own_many numbers few n) ∙ m.all_held),
      λ (none, l). record { new = not-held none; all_held = own_many numbers few n ∙ l },
    )
