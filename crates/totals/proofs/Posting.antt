-- What posting a record comes to.
use Rattle.std.proofs.Common.{◌≡◌, ℕ, zero, suc, ◌+◌, ◌%◌, ◌^◌, ◌<◌, ◌≤◌, Bool, true, false, cond, not, ◌&&◌, eqb, ltb, List, [], ◌∷◌, ◌++◌, map, length, get_or, take, set, ℤ, ◌+ℤ◌, sym, refl, ap, ◌∙◌, ap₂, inl, inr, add-one, arith, length-take-le, get_or-take, take-suc-set, ltb-false, ltb-true, le-ltb, lt-ltb, eq-eqb, ne_eqb, eqb-true}
use mathlib.Core.Option.{some}
use borrow.Author.Tests.{not-false}
use lib.ListN.{length-map}
use lib.Seq.{take-set-lt}
use Rattle.rules.specs.Basics.{if_some, exists, every, find}
use Rattle.rules.specs.Refusal.{NO_ROW, TOTAL, rank_in, first_of, Outcome, answered, refused, ◌unless◌, ◌when◌, ◌and_then◌}
use Rattle.rules.specs.Forms.{is_currency}
use Rattle.rules.specs.Services.{packed}
use Rattle.std.specs.Prelude.{Some, None, Ok, Err}
use Rattle.rules.specs.Totals.{Row as RulesRow, table, counting, totalling, is_in_range, is_of, is_held, Entry, null, money, new_total, fitting, entered, is_uncounted, recorded}
use Rattle.rules.specs.TotalNumbers.{is64, currency_in, total_in, entry_number}
use Rattle.rules.proofs.Tests.{clash, neither, both_true}
use Rattle.rules.proofs.TotalRows.{entered-new}
use Rattle.rules.proofs.Totals.{undamaged}
use Rattle.refusal.specs.Meaning.{refusal_of}
use Rattle.refusal.specs.declared.Refusal.{Refusal}
use Rattle.totals.specs.declared.Row.{Row}
use Rattle.totals.specs.declared.Table.{Table}
use Rattle.totals.specs.declared.post.Posted.{Posted}
use Rattle.totals.specs.Tables.{blank, held_rows, row_meant, table_meant, are_totals, place_of}
use Rattle.totals.specs.Readings.{reading_meant, Small, Usable, with_refused, with_row, PostedAs}
use Rattle.totals.proofs.Arithmetic.{sum-numbers}
use Rattle.totals.proofs.Places.{same_number, held_place}
use Rattle.totals.proofs.Taking.{map_more, totals_more}

-- a record that is refused, or null
pub refused_as : (t : Table) → Usable t → {o : Outcome Entry} {r : Refusal} {p : Posted} → is_uncounted (refusal_of r) ≡ false → (o and_then fitting (table_meant t).rows) ≡ refused (refusal_of r)
    → p.table ≡ with_refused t → p.answer ≡ Err r → PostedAs t o p
refused_as t u {r = r} n e f g = record {
  answer = ap reading_meant g ∙ sym e;
  number = ap (packed entry_number) (ap reading_meant g ∙ sym e);
  table = ap table_meant f ∙ rw (e, n, add-one) refl;
  few = rw f u.few;
  bits = rw f u.bits;
}

-- the place of a currency among rows, and what is there
module _ (c : ℕ) (cur : is_currency (currency_in c) ≡ true) (z : ℤ) where
  pub place_most : (rows : List Row) → place_of c rows ≤ length rows
  unfolding place_of
  place_most [] = omega arith
  place_most (r ∷ rows) = go (eqb r.currency c) (place_most rows)
    where
      go : (b : Bool) → place_of c rows ≤ length rows → cond b 0 (suc (place_of c rows)) ≤ suc (length rows)
      go true h = omega arith
      go false h = omega arith

  -- a currency that is held: its new total, and the rows after it
  pub total_there : (rows : List Row) → place_of c rows < length rows → new_total (currency_in c) z (map row_meant rows) ≡ total_in (get_or rows (place_of c rows) blank).total +ℤ z
  unfolding place_of find
  total_there [] h = clash (omega arith)
  total_there (r ∷ rows) h = rw (same_number r.currency c cur) (go (eqb r.currency c) h (total_there rows))
    where
      go : (b : Bool) → cond b 0 (suc (place_of c rows)) < suc (length rows) → (place_of c rows < length rows → new_total (currency_in c) z (map row_meant rows) ≡ total_in (get_or rows (place_of c rows) blank).total +ℤ z)
          → if_some (cond b (some (row_meant r)) (find (is_of (currency_in c)) (map row_meant rows))) (λ q. q.total +ℤ z) z ≡ total_in (get_or (r ∷ rows) (cond b 0 (suc (place_of c rows))) blank).total +ℤ z
      go true h below = refl
      go false h below = below (omega arith)

  pub entered_there : (rows : List Row) (n : ℕ) → place_of c rows < length rows → total_in n ≡ total_in (get_or rows (place_of c rows) blank).total +ℤ z
      → map row_meant (set rows (place_of c rows) (record { currency = c; total = n })) ≡ entered (currency_in c) z (map row_meant rows)
  unfolding place_of entered
  entered_there [] n h e = clash (omega arith)
  entered_there (r ∷ rows) n h e = rw (same_number r.currency c cur) (go (eqb r.currency c) refl h e (entered_there rows n))
    where
      go : (b : Bool) → eqb r.currency c ≡ b → cond b 0 (suc (place_of c rows)) < suc (length rows)
          → total_in n ≡ total_in (get_or (r ∷ rows) (cond b 0 (suc (place_of c rows))) blank).total +ℤ z
          → (place_of c rows < length rows → total_in n ≡ total_in (get_or rows (place_of c rows) blank).total +ℤ z
          → map row_meant (set rows (place_of c rows) (record { currency = c; total = n })) ≡ entered (currency_in c) z (map row_meant rows))
          → map row_meant (set (r ∷ rows) (cond b 0 (suc (place_of c rows))) (record { currency = c; total = n }))
          ≡ cond b (totalling (currency_in r.currency) (total_in r.total +ℤ z) ∷ map row_meant rows) (row_meant r ∷ entered (currency_in c) z (map row_meant rows))
      go true f h e below = rw (← eqb-true r.currency c f, ← e) refl
      go false f h e below = ap (λ l. row_meant r ∷ l) (below (omega arith) e)

  -- a new one
  pub total-new : (rows : List RulesRow) → is_held (currency_in c) rows ≡ false → new_total (currency_in c) z rows ≡ z
  unfolding exists find
  total-new [] h = refl
  total-new (r ∷ rows) h = let (a, b) = neither (is_of (currency_in c) r) (is_held (currency_in c) rows) h in rw a (total-new rows b)

-- a row at a place passes what all pass, and may be replaced by one that passes
every-at : {A : Type 0} (p : A → Bool) (l : List A) (k : ℕ) (d : A) → every p l ≡ true → k < length l → p (get_or l k d) ≡ true
unfolding every
every-at p [] k d e h = clash (omega arith)
every-at p (a ∷ l) zero d e h = (both_true (p a) (every p l) e).0
every-at p (a ∷ l) (suc k) d e h = every-at p l k d (both_true (p a) (every p l) e).1 (omega arith)

every_set : {A : Type 0} (p : A → Bool) (l : List A) (k : ℕ) (a : A) → every p l ≡ true → p a ≡ true → every p (set l k a) ≡ true
unfolding every
every_set p [] k a e h = refl
every_set p (b ∷ l) zero a e h = rw (h, (both_true (p b) (every p l) e).1)
every_set p (b ∷ l) (suc k) a e h = let (x, y) = both_true (p b) (every p l) e in rw (x, every_set p l k a y h)

in_range-at : (rows : List Row) (k : ℕ) → k < length rows → exists (λ r. not (is_in_range r.total)) (map row_meant rows) ≡ false → is_in_range (total_in (get_or rows k blank).total) ≡ true
unfolding exists
in_range-at [] k h e = clash (omega arith)
in_range-at (r ∷ rows) zero h e = not-false _ (neither (not (is_in_range (total_in r.total))) (exists (λ r. not (is_in_range r.total)) (map row_meant rows)) e).0
in_range-at (r ∷ rows) (suc k) h e = in_range-at rows k (omega arith) (neither (not (is_in_range (total_in r.total))) (exists (λ r. not (is_in_range r.total)) (map row_meant rows)) e).1

-- an amount of a currency, posted
module _ (t : Table) (u : Usable t) (long : length t.rows ≡ 16) (c a : ℕ) (cur : is_currency (currency_in c) ≡ true) (small : Small a) where
  abbrev rows : List RulesRow
  rows = (table_meant t).rows

  abbrev entry : Entry
  entry = money (currency_in c) (total_in a)

  abbrev place : ℕ
  place = place_of c (held_rows t)

  held-length : length (held_rows t) ≡ t.held
  held-length = length-take-le t.held t.rows (omega (arith, long, u.few))

  rows-length : length rows ≡ t.held
  rows-length = length-map (held_rows t) row_meant ∙ held-length

  pub place_few : place ≤ t.held
  place_few = omega (arith, place_most c cur (total_in a) (held_rows t), held-length)

  is-held : is_held (currency_in c) rows ≡ ltb place t.held
  is-held = held_place c cur (held_rows t) ∙ ap (ltb place) held-length

  pub no_row : place ≡ 16 → fitting rows entry ≡ refused NO_ROW
  unfolding fitting first_of rank_in
  no_row e =
      let h : t.held ≡ 16 = omega (arith, place_few, u.few) in
      rw (is-held, le-ltb place t.held (omega arith), eq-eqb (length rows) 16 (rows-length ∙ h)) (go (is_in_range (new_total (currency_in c) (total_in a) rows)))
    where
      go : (b : Bool) → (answered entry unless NO_ROW when true ++ TOTAL when not b) ≡ refused NO_ROW
      go true = refl
      go false = refl

  fits : (place ≡ 16 → ⊥) → (not (is_held (currency_in c) rows) && eqb (length rows) 16) ≡ false
  fits n = rw is-held (go (ltb place t.held) refl)
    where
      go : (b : Bool) → ltb place t.held ≡ b → (not b && eqb (length rows) 16) ≡ false
      go true e = refl
      go false e = ne_eqb (length rows) 16 (λ h. n (omega (arith, ltb-false place t.held e, place_few, rows-length)))

  pub no_total : (place ≡ 16 → ⊥) → is_in_range (new_total (currency_in c) (total_in a) rows) ≡ false → fitting rows entry ≡ refused TOTAL
  unfolding fitting first_of rank_in
  no_total n e = rw (fits n, e) refl

  fitted : (place ≡ 16 → ⊥) → is_in_range (new_total (currency_in c) (total_in a) rows) ≡ true → fitting rows entry ≡ answered entry
  unfolding fitting first_of
  fitted n e = rw (fits n, e) refl

  -- the number of the new total
  new-number : total_in ((cond (ltb place t.held) (get_or t.rows place blank).total 0 + a) % 2 ^ 64) ≡ new_total (currency_in c) (total_in a) rows
  new-number = go (ltb place t.held) refl
    where
      below : Small a → a < 2 ^ 64
      below (inl s) = omega arith
      below (inr s) = s.1

      go : (b : Bool) → ltb place t.held ≡ b → total_in ((cond b (get_or t.rows place blank).total 0 + a) % 2 ^ 64) ≡ new_total (currency_in c) (total_in a) rows
      go true e =
          let l = ltb-true place t.held e in
          let k : place < length (held_rows t) = omega (arith, held-length) in
          let g : get_or t.rows place blank ≡ get_or (held_rows t) place blank = sym (get_or-take t.held t.rows place blank l) in
          let b = every-at (λ r. is64 r.total) (held_rows t) place blank u.bits k in
          let r = in_range-at (held_rows t) place k ((undamaged (table_meant t)).0 u.undamaged).within in
          rw g (sum-numbers (get_or (held_rows t) place blank).total a (ltb-true (get_or (held_rows t) place blank).total (2 ^ 64) b) r small ∙ sym (total_there c cur (total_in a) (held_rows t) k))
      go false e =
          let n : (0 + a) % 2 ^ 64 ≡ a = omega (arith, below small) in
          rw n (sym (total-new c cur (total_in a) rows (is-held ∙ e)))

  pub summed : {at old n : ℕ} → at ≡ place → old ≡ cond (ltb at t.held) (get_or t.rows at blank).total 0 → n ≡ (old + a) % 2 ^ 64
      → (total_in n ≡ new_total (currency_in c) (total_in a) rows) × (n < 2 ^ 64)
  summed e f g = (rw (g, f, e) new-number, omega arith)

  -- the rows after it
  module _ (n : ℕ) (l : n < 2 ^ 64) (e : place ≡ 16 → ⊥) (f : total_in n ≡ new_total (currency_in c) (total_in a) rows) where
    abbrev row : Row
    row = record { currency = c; total = n }

    record Entered (b : Bool) : Type 0 where
      few : cond b t.held (t.held + 1) ≤ 16
      rows_are : map row_meant (take (cond b t.held (t.held + 1)) (set t.rows place row)) ≡ entered (currency_in c) (total_in a) rows
      bits : are_totals (take (cond b t.held (t.held + 1)) (set t.rows place row)) ≡ true

    is-entered : (b : Bool) → ltb place t.held ≡ b → Entered b
    is-entered true h =
        let i = ltb-true place t.held h in
        let k : place < length (held_rows t) = omega (arith, held-length) in
        let s = take-set-lt t.held t.rows place row i in
        record {
          few = u.few;
          rows_are = ap (map row_meant) s ∙ entered_there c cur (total_in a) (held_rows t) n k (f ∙ total_there c cur (total_in a) (held_rows t) k);
          bits = ap are_totals s ∙ every_set (λ r. is64 r.total) (held_rows t) place row u.bits (lt-ltb n (2 ^ 64) l);
        }
    is-entered false h =
        let k : place ≡ t.held = omega (arith, ltb-false place t.held h, place_few) in
        let m : t.held < length t.rows = omega (arith, long, place_few, u.few) in
        let s : take (t.held + 1) (set t.rows place row) ≡ held_rows t ++ row ∷ [] = rw (add-one, k) (take-suc-set t.rows t.held row m) in
        let w : total_in n ≡ total_in a = f ∙ total-new c cur (total_in a) rows (is-held ∙ h) in
        record {
          few = omega (arith, long);
          rows_are = ap (map row_meant) s ∙ map_more (held_rows t) row ∙ rw w (sym (entered-new (currency_in c) (total_in a) rows (is-held ∙ h)));
          bits = ap are_totals s ∙ totals_more (held_rows t) row u.bits l;
        }

    pub added_as : is_in_range (total_in n) ≡ true → {p : Posted} → p.table ≡ with_row t place row → p.answer ≡ Ok (Some (record { currency = c; amount = a })) → PostedAs t (answered entry) p
    added_as g q r =
        let h = fitted e (rw (← f) g) in
        let x = is-entered (ltb place t.held) refl in
        let k : t.added + 1 ≡ suc t.added = omega arith in
        record {
          answer = ap reading_meant r ∙ sym h;
          number = ap (packed entry_number) (ap reading_meant r ∙ sym h);
          table = ap table_meant q ∙ ap₂ table x.rows_are (ap (λ m. counting m t.null t.refused) k) ∙ sym (ap (λ o. recorded o (table_meant t)) h);
          few = rw q x.few;
          bits = rw q x.bits;
        }

-- a null
pub null_as : (t : Table) → Usable t → {p : Posted} → p.table ≡ record { rows = t.rows; held = t.held; added = t.added; null = t.null + 1; refused = t.refused }
    → p.answer ≡ Ok None → PostedAs t (answered null) p
unfolding fitting
null_as t u e f = record { answer = ap reading_meant f; number = ap (packed entry_number) (ap reading_meant f); table = ap table_meant e ∙ rw add-one refl; few = rw e u.few; bits = rw e u.bits }
