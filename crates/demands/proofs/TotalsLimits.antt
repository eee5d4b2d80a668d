-- The two limits of a day, NO ROW and TOTAL, are met exactly where the request has them.
use Prim.Native.Nat.{ℕ}
use mathlib.Core.Path.{◌≡◌, refl, sym, ◌∙◌, ap, subst}
use mathlib.Core.Logic.{◌↔◌}
use mathlib.Core.Bool.{Bool, true, false, ◌||◌, cond}
use mathlib.Core.List.{List, [], ◌∷◌, map}
use mathlib.Core.Option.{some}
use lib.ListN.{length, length-map}
use lib.IntN.{ℤ, pos, ◌+ℤ◌, +ℤ_idl}
use Rattle.rules.specs.Basics.{if_some, find, exists, same}
use Rattle.rules.specs.Refusal.{NO_ROW, TOTAL, Outcome, answered}
use Rattle.rules.specs.Services.{packed}
use Rattle.rules.specs.Totals.{Row, Table, totalling, is_in_range, is_of, is_held, Entry, money, new_total}
use Rattle.rules.specs.TotalNumbers.{entry_number}
use Rattle.rules.specs.TotalDays.{Call, reading_of, answer_to, IsUsable, HasNoRow, History, sum_added, currencies_added, rows_of}
use Rattle.rules.proofs.Tests.{same_true}
use Rattle.rules.proofs.TotalRows.{sum-none}
use Rattle.rules.proofs.Totals.{exactly_no_row, exactly-total}
use Rattle.demands.specs.Totals.{Limits}
use Rattle.demands.proofs.Answers.{iff_trans}
use Rattle.demands.proofs.TotalsDays.{packed-number}

-- rows that hold a number for each currency of a list
module _ (c : List ℕ) (z : ℤ) (f : List ℕ → ℤ) where
  abbrev rows_for : List (List ℕ) → List Row
  rows_for = map (λ d. totalling d (f d))

  held_for : (cs : List (List ℕ)) → is_held c (rows_for cs) ≡ exists (λ d. same d c) cs
  unfolding exists
  held_for [] = refl
  held_for (d ∷ cs) = ap (λ b. same d c || b) (held_for cs)

  total_for : (cs : List (List ℕ)) → new_total c z (rows_for cs) ≡ cond (exists (λ d. same d c) cs) (f c +ℤ z) z
  unfolding find exists
  total_for [] = refl
  total_for (d ∷ cs) = go (same d c) refl (total_for cs)
    where
      go : (b : Bool) → same d c ≡ b → new_total c z (rows_for cs) ≡ cond (exists (λ d. same d c) cs) (f c +ℤ z) z
          → if_some (cond b (some (totalling d (f d))) (find (is_of c) (rows_for cs))) (λ r. r.total +ℤ z) z ≡ cond (b || exists (λ d. same d c) cs) (f c +ℤ z) z
      go true e below = ap (λ d. f d +ℤ z) (same_true d c e)
      go false e below = below

module _ (a : History (Outcome Entry)) (c : List ℕ) where
  -- the currency is new and 16 are held
  abbrev Full : Type 0
  Full = (exists (λ d. same d c) (currencies_added a) ≡ false) × (length (currencies_added a) ≡ 16)

  full_is : HasNoRow c (rows_of a) ↔ Full
  full_is =
      let e = held_for c (pos 0) (λ d. sum_added d a) (currencies_added a) in
      let l = length-map (currencies_added a) (λ d. totalling d (sum_added d a)) in
      (λ n. (sym e ∙ n.new, sym l ∙ n.all_held), λ (n, m). record { new = e ∙ n; all_held = l ∙ m })

  -- the new total is the sum with the amount more
  new-total : (z : ℤ) → new_total c z (rows_of a) ≡ sum_added c a +ℤ z
  new-total z = total_for c z (λ d. sum_added d a) (currencies_added a) ∙ go _ refl
    where
      go : (b : Bool) → exists (λ d. same d c) (currencies_added a) ≡ b → cond b (sum_added c a +ℤ z) z ≡ sum_added c a +ℤ z
      go true e = refl
      go false e = rw (sum-none c a e) (sym (+ℤ_idl z))

-- the limits of a usable table that is what some answers come to
pub limits_met : (a : History (Outcome Entry)) (k : Call) (t : Table) → t.rows ≡ rows_of a → IsUsable t → (c : List ℕ) (z : ℤ) → reading_of k ≡ answered (money c z)
    → Limits a c z (packed entry_number (answer_to k t))
limits_met a k t e u c z h = record {
  no_row =
      iff_trans (packed-number (answer_to k t) NO_ROW) (iff_trans (exactly_no_row k t) (
        λ (d, y, v, i, n). (full_is a c).0 (subst (HasNoRow c) e (subst (λ x. HasNoRow x t.rows) (one-currency i) n)),
        λ n. (c, z, u, h, subst (HasNoRow c) (sym e) ((full_is a c).1 n)),
      ));
  total =
      iff_trans (packed-number (answer_to k t) TOTAL) (iff_trans (exactly-total k t) (
        λ (d, y, v, i, n, j). (
          λ m. n (subst (λ x. HasNoRow x t.rows) (sym (one-currency i)) (subst (HasNoRow c) (sym e) ((full_is a c).1 m))),
          ap is_in_range (sym (same_total (one-currency i) (one-amount i))) ∙ j,
        ),
        λ (n, j). (c, z, u, h, λ m. n ((full_is a c).0 (subst (HasNoRow c) e m)), ap is_in_range (same_total refl refl) ∙ j),
      ));
}
  where
    one-currency : {d : List ℕ} {y : ℤ} → reading_of k ≡ answered (money d y) → d ≡ c
    one-currency i = cc

    one-amount : {d : List ℕ} {y : ℤ} → reading_of k ≡ answered (money d y) → y ≡ z
    one-amount i = cc

    same_total : {d : List ℕ} {y : ℤ} → d ≡ c → y ≡ z → new_total d y t.rows ≡ sum_added c a +ℤ z
    same_total i j = rw (i, j, e) (new-total a c z)
