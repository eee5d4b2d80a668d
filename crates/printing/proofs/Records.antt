-- The terms of a list that can be written, one after another.
use Prim.Native.Nat.{ℕ, zero, suc, ◌+◌, ◌-◌, ◌*◌, ◌/◌, ◌≤◌, ◌<◌}
use mathlib.Core.Path.{◌≡◌, refl, sym, ◌∙◌, ap, ap₂}
use mathlib.Core.Bool.{Bool, true, false, not, cond, not-not}
use mathlib.Core.List.{List, [], ◌∷◌, ◌++◌, flat_map}
use native.Mathlib.Omega.{arith}
use borrow.Author.Tests.{eq-eqb, ne_eqb, eqb-true, eqb-false, not-false}
use lib.Dec.{eqb}
use lib.ListN.{length, length-append}
use Rattle.rules.specs.Basics.{every, bytes}
use Rattle.rules.specs.Sets.{Interval}
use Rattle.rules.specs.LentLists.{is_improper_list, listed}
use Rattle.rules.specs.Printing.{term_text, written, record_text, is_writable_stretch, is_unwritable}
use Rattle.rules.proofs.Tests.{neither, every_true}
use Rattle.rules.proofs.Pieces.{written_writable, record_length, record_short}
use Rattle.rules.proofs.PrintingCases.{is_printable}
use Rattle.lent.specs.Rows.{row_at, stretches_from}
use Rattle.lent.proofs.Rows.{listed-rows}
use Rattle.lent.proofs.Proper.{proper-length, proper-kinds}
use Rattle.printing.specs.Terms.{stretch_of}
use Rattle.printing.specs.Records.{term_count, term_row, terms_from, terms_text}

-- the next term of those that are left, and none
pub terms_more : (list : List ℕ) (k n : ℕ) → k < n → terms_from list k (n - k) ≡ stretch_of (term_row list k) ∷ terms_from list (k + 1) (n - (k + 1))
unfolding terms_from
terms_more list k n h = let z : n - k ≡ suc (n - (k + 1)) = omega arith in rw z

pub terms_none : (list : List ℕ) (k n : ℕ) → n ≤ k → terms_from list k (n - k) ≡ []
unfolding terms_from
terms_none list k n h = let z : n - k ≡ 0 = omega arith in rw z

-- where the list is not empty, they are its stretches
terms_are : (list : List ℕ) → eqb (length list) 0 ≡ false → (k n : ℕ) → terms_from list k n ≡ stretches_from list k n
unfolding terms_from stretches_from
terms_are list e k zero = refl
terms_are list e k (suc n) = rw e (ap₂ ◌∷◌ refl (terms_are list e (k + 1) n))

-- of an empty list there is one term, of another one a stretch
module _ (list : List ℕ) (e : length list ≡ 0) where
  pub count_none : term_count list ≡ 1
  count_none = rw (eq-eqb (length list) 0 e)

module _ (list : List ℕ) (e : length list ≡ 0 → ⊥) where
  pub count-some : term_count list ≡ length list / 32
  count-some = rw (ne_eqb (length list) 0 e)

  pub row-some : (k : ℕ) → term_row list k ≡ row_at list k
  row-some k = rw (ne_eqb (length list) 0 e)

module _ (list : List ℕ) (p : is_improper_list list ≡ false) where
  pub count_most : term_count list ≤ 32
  count_most = go (eqb (length list) 0)
    where
      go : (b : Bool) → cond b 1 (length list / 32) ≤ 32
      go true = omega arith
      go false = omega (arith, proper-length list p)

  pub written_terms : written (listed list) ≡ terms_from list 0 (term_count list)
  unfolding terms_from stretches_from
  written_terms = go (eqb (length list) 0) refl
    where
      some : (n : ℕ) → length list ≡ 32 * n → 0 < n → written (listed list) ≡ stretches_from list 0 n
      some zero e l = absurd (omega arith)
      some (suc n) e l = rw (listed-rows list (suc n) e)

      go : (b : Bool) → eqb (length list) 0 ≡ b → written (listed list) ≡ terms_from list 0 (cond b 1 (length list / 32))
      go true e = rw (listed-rows list 0 (omega (arith, eqb-true (length list) 0 e)), e)
      go false e =
          let l = proper-length list p in
          some (length list / 32) (omega (arith, l)) (omega (arith, l, eqb-false (length list) 0 e)) ∙ sym (terms_are list e 0 (length list / 32))

  pub row-kinds : (k : ℕ) → k < term_count list → ((term_row list k).low_kind < 3) × ((term_row list k).high_kind < 3)
  row-kinds k h = go (eqb (length list) 0) refl h
    where
      go : (b : Bool) → eqb (length list) 0 ≡ b → k < cond b 1 (length list / 32) → ((term_row list k).low_kind < 3) × ((term_row list k).high_kind < 3)
      go true e l = rw e (omega arith)
      go false e l = rw e (proper-kinds list k p (omega (arith, proper-length list p)))

  -- the term that stands for no stretch can be written
  pub writable_start : (n : ℕ) → n ≡ term_count list → every is_writable_stretch (terms_from list 0 (n - 0)) ≡ every is_writable_stretch (listed list)
  unfolding every
  writable_start n e =
      let z : n - 0 ≡ term_count list = omega (arith, e) in
      rw z (ap (every is_writable_stretch) (sym written_terms) ∙ go (listed list))
    where
      go : (ss : List Interval) → every is_writable_stretch (written ss) ≡ every is_writable_stretch ss
      go [] = written_writable [] refl
      go (s ∷ ss) = refl

-- whether the terms that are left can be written
module _ (list : List ℕ) (k n : ℕ) (h : k < n) where
  pub writable_here : every is_writable_stretch (terms_from list k (n - k)) ≡ true
      → (is_writable_stretch (stretch_of (term_row list k)) ≡ true) × (every is_writable_stretch (terms_from list (k + 1) (n - (k + 1))) ≡ true)
  writable_here e = every_true is_writable_stretch _ _ (sym (ap (every is_writable_stretch) (terms_more list k n h)) ∙ e)

  pub writable_more : is_writable_stretch (stretch_of (term_row list k)) ≡ true
      → every is_writable_stretch (terms_from list k (n - k)) ≡ every is_writable_stretch (terms_from list (k + 1) (n - (k + 1)))
  unfolding every
  writable_more e = ap (every is_writable_stretch) (terms_more list k n h) ∙ rw e refl

  pub writable_not : is_writable_stretch (stretch_of (term_row list k)) ≡ false → every is_writable_stretch (terms_from list k (n - k)) ≡ false
  unfolding every
  writable_not e = ap (every is_writable_stretch) (terms_more list k n h) ∙ rw e refl

pub writable_end : (list : List ℕ) (k n : ℕ) → n ≤ k → every is_writable_stretch (terms_from list k (n - k)) ≡ true
unfolding every
writable_end list k n h = rw (terms_none list k n h)

-- the text of the terms that are left
abbrev pub left : (list : List ℕ) → (k n : ℕ) → List ℕ
left list k n = flat_map term_text (terms_from list k (n - k))

pub left_more : (list : List ℕ) (k n : ℕ) → k < n → left list k n ≡ term_text (stretch_of (term_row list k)) ++ left list (k + 1) n
unfolding flat_map
left_more list k n h = rw (terms_more list k n h)

pub left_length : (list : List ℕ) (k n : ℕ) → k < n → length (left list k n) ≡ length (term_text (stretch_of (term_row list k))) + length (left list (k + 1) n)
left_length list k n h = ap length (left_more list k n h) ∙ length-append (term_text (stretch_of (term_row list k))) (left list (k + 1) n)

pub left_none : (list : List ℕ) (k n : ℕ) → n ≤ k → left list k n ≡ []
unfolding flat_map
left_none list k n h = rw (terms_none list k n h)

pub left_all : (list : List ℕ) (n : ℕ) → n ≡ term_count list → left list 0 n ≡ terms_text list
left_all list n e = let z : n - 0 ≡ term_count list = omega (arith, e) in rw z

-- a list that can be written
module _ (list : List ℕ) (w : is_unwritable list ≡ false) where
  pub is-proper : is_improper_list list ≡ false
  is-proper = (neither (is_improper_list list) (not (every is_writable_stretch (listed list))) w).0

  pub all_writable : (n : ℕ) → n ≡ term_count list → every is_writable_stretch (terms_from list 0 (n - 0)) ≡ true
  all_writable n e = writable_start list is-proper n e ∙ not-false _ (neither (is_improper_list list) (not (every is_writable_stretch (listed list))) w).1

  pub record_pieces : record_text (listed list) ≡ bytes "<stay xsi:type=\"QSU_TS\">" ++ terms_text list ++ bytes "</stay>"
  unfolding record_text
  record_pieces = rw (← (written_terms list is-proper)) refl

  pub record_size : 31 + length (terms_text list) ≡ length (record_text (listed list))
  record_size = rw (← (written_terms list is-proper)) (sym (record_length (listed list)))

  pub record_most : length (record_text (listed list)) ≤ 4_735
  record_most = let q = is_printable list w in record_short (listed list) q.few q.writable

-- whether a list can be written, by the two tests
pub improper_unwritable : (list : List ℕ) → is_improper_list list ≡ true → false ≡ not (is_unwritable list)
improper_unwritable list e = rw e refl

pub proper_writable : (list : List ℕ) → is_improper_list list ≡ false → every is_writable_stretch (listed list) ≡ not (is_unwritable list)
proper_writable list e = rw e (sym (not-not (every is_writable_stretch (listed list))))
