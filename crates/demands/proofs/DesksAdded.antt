-- The numbers of a table after a record that a desk adds: one total and one count change, or a row comes after all others.
use Prim.Native.Nat.{ℕ, suc, ◌+◌, ◌*◌, ◌≤◌, ◌<◌}
use mathlib.Core.Path.{◌≡◌, sym, ◌∙◌, ap, ap₂}
use mathlib.Core.Logic.{◌⊎◌, inl, inr}
use mathlib.Core.Bool.{Bool, true, false, cond}
use mathlib.Core.List.{List, [], ◌∷◌}
use native.Mathlib.Omega.{arith}
use lib.Dec.{eqb}
use lib.ListN.{length, drop, set, length-set, length-append, length-drop}
use lib.IntN.{ℤ, ◌+ℤ◌}
use Rattle.rules.specs.Refusal.{answered}
use Rattle.rules.specs.Services.{overwrite}
use Rattle.rules.specs.Totals.{Row, Counts, totalling, is_of, is_held, money, entered, counts_after}
use Rattle.rules.specs.TotalNumbers.{Lent, total_number, row_in}
use Rattle.rules.specs.Desks.{Owned, Shared, owned, is_desk, rows_for, with_rows, part_of, recorded_of}
use Rattle.rules.specs.DeskNumbers.{shared_in, shared_numbers}
use Rattle.rules.proofs.Totals.{Proper}
use Rattle.rules.proofs.Desks.{desk_is, Sound, sound_part}
use Rattle.rules.proofs.DeskNumbers.{length-parts, at-most_32}
use Rattle.demands.specs.Totals.{AreLetters, IsTotal}
use Rattle.demands.specs.Desks.{held_in, counts_from, currency_at, total_at, how_many_of, raised, IsAt}
use Rattle.demands.proofs.TotalsNumbers.{letters-read, total-is}
use Rattle.demands.proofs.DesksRows.{IsNth, held-is, own_many}
use Rattle.demands.proofs.DesksHeld.{at_row, not-held}
use Rattle.demands.proofs.DesksEntered.{row_more, row_changed, body, body_changed, stored, body_more}
use Rattle.demands.proofs.DesksNumbers.{seven, over, laid, body_is}

module _ (numbers : List ℕ) (lent : Lent 103 numbers) (p : Sound (shared_in numbers)) (n : ℕ) (h : is_desk n ≡ true) where
  abbrev s : Shared
  s = shared_in numbers

  few : length s.rows ≤ 32
  few = at-most_32 s p

  held : length s.rows ≡ held_in numbers
  held = held-is numbers few

  proper : Proper (part_of n s)
  proper = sound_part s p n h

  module _ (c : List ℕ) (z : ℤ) where
    abbrev after : List ℕ
    after = overwrite numbers (shared_numbers (recorded_of n (answered (money c z)) s))

    abbrev one_added : Counts → Counts
    one_added = counts_after (answered (money c z))

    abbrev new_rows : List (Owned Row)
    new_rows = with_rows n (entered c z (rows_for n s.rows)) s.rows

    added-raised : (b : Bool) → laid numbers (held_in numbers) (drop 7 numbers) one_added b ≡ raised (cond b 1 4) numbers
    added-raised true = ap (raised 1) (seven numbers lent.long)
    added-raised false = ap (raised 4) (seven numbers lent.long)

    -- onto a total that is held
    changed : (i : ℕ) (r : Row) → IsNth s.rows i (owned n r) → is_of c r ≡ true → new_rows ≡ set s.rows i (owned n (totalling r.currency (r.total +ℤ z)))
    changed i r e f = row_changed n c z s.rows i r e f proper.once

    changed_body : (i : ℕ) (r : Row) → IsNth s.rows i (owned n r) → is_of c r ≡ true → body new_rows (drop 7 numbers) ≡ set (drop 7 numbers) (2 + 3 * i) (total_number (r.total +ℤ z))
    changed_body i r e f =
        ap (λ rows. body rows (drop 7 numbers)) (changed i r e f) ∙ body_changed s.rows i (owned n r) (r.total +ℤ z) (drop 7 numbers) e
        ∙ ap (λ l. set l (2 + 3 * i) (total_number (r.total +ℤ z))) (body_is numbers lent p)

    pub added-held : (i : ℕ) → IsAt numbers n c i → {x : ℤ} → IsTotal x (total_at numbers i) → {total : ℕ} → IsTotal (x +ℤ z) total
        → after ≡ set (raised (counts_from n) numbers) (9 + 3 * i) total
    added-held i a {x} t {total} u =
        let (e, g) = at_row numbers lent p n h c i a in
        let r = row_in (currency_at numbers i) (total_at numbers i) in
        let many : length new_rows ≡ held_in numbers = ap length (changed i r e g) ∙ length-set s.rows i _ ∙ held in
        let (_, x-is) = total-is x (total_at numbers i) t in
        let (sum_is, _) = total-is (x +ℤ z) total u in
        let e = changed_body i r e g ∙ ap (set (drop 7 numbers) (2 + 3 * i)) (ap (λ y. total_number (y +ℤ z)) x-is ∙ sym sum_is) in
        let place : 9 + 3 * i ≡ suc (suc (suc (suc (suc (suc (suc (2 + 3 * i))))))) = omega arith in
        rw (place, ← added-raised (eqb n 1)) (over numbers (recorded_of n (answered (money c z)) s) ∙ ap₂ (λ k l. laid numbers k l one_added (eqb n 1)) many e)

    -- or as a new row after all others
    room_left : how_many_of n numbers (held_in numbers) < 16 → length s.rows < 32
    room_left m = go (desk_is n h)
      where
        below : length (rows_for n s.rows) < 16
        below = rw (own_many numbers few n) m

        go : (n ≡ 1) ⊎ (n ≡ 2) → length s.rows < 32
        go (inl f) = let l : length (rows_for 1 s.rows) < 16 = rw f at below in omega (arith, length-parts s.rows p.desks, p.second.few)
        go (inr f) = let l : length (rows_for 2 s.rows) < 16 = rw f at below in omega (arith, length-parts s.rows p.desks, p.first.few)

    more_body : is_held c (rows_for n s.rows) ≡ false → how_many_of n numbers (held_in numbers) < 16 → body new_rows (drop 7 numbers) ≡ stored (3 * held_in numbers) (owned n (totalling c z)) (drop 7 numbers)
    more_body e m =
        let wide : 3 + 3 * length s.rows ≤ length (drop 7 numbers) = omega (arith, room_left m, length-drop 7 numbers, lent.long) in
        ap (λ rows. body rows (drop 7 numbers)) (row_more n c z s.rows e) ∙ body_more s.rows (owned n (totalling c z)) (drop 7 numbers) wide
        ∙ ap₂ (λ k l. stored (3 * k) (owned n (totalling c z)) l) held (body_is numbers lent p)

    pub added_new : ((i : ℕ) → IsAt numbers n c i → ⊥) → how_many_of n numbers (held_in numbers) < 16 → {currency total : ℕ} → AreLetters c currency → IsTotal z total
        → after
        ≡ set (set (set (set (raised (counts_from n) numbers) 0 (suc (held_in numbers))) (7 + 3 * held_in numbers) n) (8 + 3 * held_in numbers) currency) (9 + 3 * held_in numbers) total
    added_new none below {currency} {total} a u =
        let new = not-held numbers lent p n h c (letters-read c currency a).2 none in
        let many : length new_rows ≡ suc (held_in numbers) = ap length (row_more n c z s.rows new) ∙ length-append s.rows (_ ∷ []) ∙ omega (arith, held) in
        let d : 7 + 3 * held_in numbers ≡ suc (suc (suc (suc (suc (suc (suc (3 * held_in numbers))))))) = omega arith in
        let e : 8 + 3 * held_in numbers ≡ suc (suc (suc (suc (suc (suc (suc (1 + 3 * held_in numbers))))))) = omega arith in
        let f : 9 + 3 * held_in numbers ≡ suc (suc (suc (suc (suc (suc (suc (2 + 3 * held_in numbers))))))) = omega arith in
        rw ((letters-read c currency a).0, (total-is z total u).0, f, e, d, ← added-raised (eqb n 1))
        (over numbers (recorded_of n (answered (money c z)) s) ∙ ap₂ (λ k l. laid numbers k l one_added (eqb n 1)) many (more_body new below))
