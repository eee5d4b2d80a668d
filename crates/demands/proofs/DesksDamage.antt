-- A table is damaged exactly if its numbers say so; and what an undamaged one says is its numbers.
use Prim.Native.Nat.{ℕ, ◌+◌, ◌^◌, ◌≤◌, ◌<◌, min}
use mathlib.Core.Path.{◌≡◌, refl, sym, ◌∙◌, ap, ap₂}
use mathlib.Core.Logic.{inl, inr, ◌↔◌}
use mathlib.Core.Bool.{Bool, true, false, not, ◌||◌, cond}
use mathlib.Core.List.{List, [], ◌∷◌}
use native.Mathlib.Omega.{arith}
use native.Mathlib.Decide.{dec_le}
use borrow.Author.Tests.{ltb-true, not-true, not-false}
use lib.Dec.{ltb, eqb}
use lib.ListN.{length, get_or, take, drop}
use Rattle.rules.specs.Basics.{exists, same}
use Rattle.rules.specs.Forms.{is_currency}
use Rattle.rules.specs.Totals.{Row, counted, is_in_range, is_held_twice, is_damaged}
use Rattle.rules.specs.TotalNumbers.{Lent, total_in, currency_in}
use Rattle.rules.specs.Desks.{Owned, owned, Shared, is_desk, rows_for, counts_for, part_of, is_faulty}
use Rattle.rules.specs.DeskNumbers.{shared_in}
use Rattle.rules.proofs.Tests.{clash, same_refl}
use Rattle.rules.proofs.Desks.{desk_is, is_stray, Sound, faultless, sound_part}
use Rattle.rules.proofs.DeskNumbers.{sound-formed, sound-within, at-most_32, rows-length}
use Rattle.demands.specs.Desks.{IsDesk, held_in, counted_by, desk_at, currency_at, total_at, IsFaulty, too_many, of_neither, over_16, wrong_form, held_twice, out_of_range, over_counted, IsRow, Says}
use Rattle.demands.proofs.TotalsNumbers.{letters_in, letters-read, same-currency, total_in_lem, outside-read}
use Rattle.demands.proofs.DesksRows.{is_unformed, is_outside, some-nth, no_nth, some_own, some_twice, no_twice, row_at, small_at, held-is, nth-held, held-nth, own_many}

-- a desk's number passes the test of one
pub is-desk : (n : ℕ) → IsDesk n → is_desk n ≡ true
is-desk n (inl e) = rw e
is-desk n (inr e) = rw e

pub not-desk : (n : ℕ) → is_desk n ≡ false ↔ (IsDesk n → ⊥)
not-desk n = (λ e d. let f = is-desk n d in clash (cc), go (is_desk n) refl)
  where
    go : (b : Bool) → is_desk n ≡ b → (IsDesk n → ⊥) → b ≡ false
    go true e h = absurd (h (desk_is n e))
    go false e h = refl

opposed : (b : Bool) → not b ≡ true → b ≡ true → ⊥
opposed true e f = clash (cc)
opposed false e f = clash (cc)

module _ (numbers : List ℕ) (lent : Lent 103 numbers) where
  abbrev s : Shared
  s = shared_in numbers

  small : (i : ℕ) → get_or numbers i 0 < 2 ^ 64
  small = small_at numbers lent.bits

  -- what is counted of a desk, by the numbers
  pub counts_are : (n : ℕ) → counted (counts_for n s) ≡ counted_by n numbers
  counts_are n = go (eqb n 1)
    where
      go : (b : Bool) → counted (cond b s.first s.second) ≡ get_or numbers (cond b 1 4) 0 + get_or numbers (1 + cond b 1 4) 0 + get_or numbers (2 + cond b 1 4) 0
      go true = refl
      go false = refl

  -- in a table of at most 32 rows
  module _ (few : length s.rows ≤ 32) where
    own_found : (n : ℕ) (p : Row → Bool) → exists p (rows_for n s.rows) ≡ true → (i : ℕ) × (i < held_in numbers) × (p (row_at numbers i).row ≡ true)
    own_found n p h = let (i, r, e, f) = some_own n p s.rows h in let (l, g) = held-nth numbers few i _ e in (i, l, sym (ap (λ x. p x.row) g) ∙ f)

    -- what the tests of a desk's part find in its numbers
    part_found : (n : ℕ) → IsDesk n → is_damaged (part_of n s) ≡ true → IsFaulty numbers
    unfolding is_damaged
    part_found n desk h = go _ _ _ _ _ refl refl refl refl refl h
      where
        go : (a b c d e : Bool) → ltb 16 (length (rows_for n s.rows)) ≡ a → exists is_unformed (rows_for n s.rows) ≡ b
            → is_held_twice (rows_for n s.rows) ≡ c → exists is_outside (rows_for n s.rows) ≡ d
            → ltb 1_000_000 (counted (counts_for n s)) ≡ e → (a || b || c || d || e) ≡ true → IsFaulty numbers
        go true b c d e i j k l m h = over_16 n desk (omega (arith, ltb-true 16 (length (rows_for n s.rows)) i, own_many numbers few n))
        go false true c d e i j k l m h =
            let (q, x, g) = own_found n is_unformed j in
            wrong_form q x (λ w a. let (u, v, t) = letters-read w (currency_at numbers q) a in opposed (is_currency w) (rw v at g) t)
        go false false true d e i j k l m h =
            let (q, r, x, y, o, f, g, u) = some_twice n s.rows k in
            let (a, b) = held-nth numbers few q _ f in
            let (v, w) = held-nth numbers few r _ g in
            let z = sym (ap₂ (λ x y. same y.row.currency x.row.currency) b w) ∙ u in
            held_twice q r o v (sym (ap (λ x. x.desk) b) ∙ ap (λ x. x.desk) w) (sym (same-currency (currency_at numbers r) (currency_at numbers q) (small _) (small _) z))
        go false false false true e i j k l m h =
            let (q, x, g) = own_found n is_outside l in
            let (u, v) = (outside-read (total_at numbers q) (small _)).1 (not-true _ g) in
            out_of_range q x u v
        go false false false false true i j k l m h = over_counted n desk (rw (counts_are n) at (ltb-true 1_000_000 (counted (counts_for n s)) m))
        go false false false false false i j k l m h = clash (cc)

    damage_found : is_faulty s ≡ true → IsFaulty numbers
    unfolding is_faulty
    damage_found h = go _ _ _ refl refl refl h
      where
        go : (a b c : Bool) → is_damaged (part_of 1 s) ≡ a → is_damaged (part_of 2 s) ≡ b → exists is_stray s.rows ≡ c → (a || b || c) ≡ true → IsFaulty numbers
        go true b c d e f h = part_found 1 (inl refl) d
        go false true c d e f h = part_found 2 (inr refl) e
        go false false true d e f h =
            let (i, r, g, k) = some-nth is_stray s.rows f in
            let (x, y) = held-nth numbers few i r g in
            of_neither i x (λ w. opposed (is_desk (desk_at numbers i)) (sym (ap is_stray y) ∙ k) (is-desk (desk_at numbers i) w))
        go false false false d e f h = clash (cc)

  -- and there is nothing to be found in one that passes them, whose rows each say what they should
  module _ (p : Sound s) where
    few : length s.rows ≤ 32
    few = at-most_32 s p

    desk-held : (i : ℕ) → i < held_in numbers → is_desk (desk_at numbers i) ≡ true
    desk-held i l = not-false _ (no_nth is_stray s.rows p.desks i (row_at numbers i) (nth-held numbers few i l))

    formed-held : (i : ℕ) → i < held_in numbers → is_currency (currency_in (currency_at numbers i)) ≡ true
    formed-held i l = not-false _ (no_nth (λ r. is_unformed r.row) s.rows (sound-formed s p) i (row_at numbers i) (nth-held numbers few i l))

    within_held : (i : ℕ) → i < held_in numbers → is_in_range (total_in (total_at numbers i)) ≡ true
    within_held i l = not-false _ (no_nth (λ r. is_outside r.row) s.rows (sound-within s p) i (row_at numbers i) (nth-held numbers few i l))

    no_damage : IsFaulty numbers → ⊥
    no_damage (too_many l) = omega (arith, few, held-is numbers few)
    no_damage (of_neither i l f) = f (desk_is (desk_at numbers i) (desk-held i l))
    no_damage (over_16 n d l) = omega (arith, own_many numbers few n, (sound_part s p n (is-desk n d)).few)
    no_damage (wrong_form i l f) = f (currency_in (currency_at numbers i)) (letters_in (currency_at numbers i) (formed-held i l))
    no_damage (held_twice i j l m d c) =
        let h : i < held_in numbers = omega arith in
        let e = nth-held numbers few j m ∙ ap (λ n. owned n (row_at numbers j).row ∷ []) (sym d) in
        let f = no_twice (desk_at numbers i) s.rows (sound_part s p (desk_at numbers i) (desk-held i h)).once i j _ _ l (nth-held numbers few i h) e in
        clash (cc (same_refl (currency_in (currency_at numbers i))))
    no_damage (out_of_range i l f g) = clash (cc (within_held i l, (outside-read (total_at numbers i) (small _)).0 (f, g)))
    no_damage (over_counted n d l) = omega (arith, counts_are n, (sound_part s p n (is-desk n d)).below)

    row-says : (i : ℕ) → i < held_in numbers → (r : Owned Row) × (take 1 (drop i s.rows) ≡ r ∷ []) × IsRow r (desk_at numbers i) (currency_at numbers i) (total_at numbers i)
    row-says i l = (
      row_at numbers i,
      nth-held numbers few i l,
      record {
        desk_is = refl;
        letters = letters_in (currency_at numbers i) (formed-held i l);
        amount = total_in_lem (total_at numbers i) (small _) (within_held i l);
      },
    )

  pub damage_is : is_faulty s ≡ true ↔ IsFaulty numbers
  damage_is = (by_rows (dec_le 33 (held_in numbers)), λ d. go d (is_faulty s) refl)
    where
      by_rows : Dec (33 ≤ held_in numbers) → is_faulty s ≡ true → IsFaulty numbers
      by_rows (yes l) h = too_many l
      by_rows (no l) h = damage_found (omega (arith, rows-length (min 33 (held_in numbers)) (drop 7 numbers))) h

      go : IsFaulty numbers → (b : Bool) → is_faulty s ≡ b → b ≡ true
      go d true e = refl
      go d false e = absurd (no_damage ((faultless s).0 e) d)

  pub sound-is : is_faulty s ≡ false ↔ (IsFaulty numbers → ⊥)
  sound-is = (λ e d. let f = damage_is.1 d in clash (cc), go (is_faulty s) refl)
    where
      go : (b : Bool) → is_faulty s ≡ b → (IsFaulty numbers → ⊥) → b ≡ false
      go true e h = absurd (h (damage_is.0 e))
      go false e h = refl

  pub table-says : (IsFaulty numbers → ⊥) → Says s numbers
  table-says e =
      let p = (faultless s).0 (sound-is.1 e) in
      record { held = held-is numbers (few p); rows = row-says p; first_added = refl; first_null = refl; first_refused = refl; second_added = refl; second_null = refl; second_refused = refl }
