-- What a currency's number and a total's say: three capitals, each text of one number; and a total out of range.
use Prim.Native.Nat.{ℕ, zero, suc, ◌-◌, ◌^◌, ◌≤◌, ◌<◌}
use mathlib.Core.Path.{◌≡◌, refl, sym, ◌∙◌, ap}
use mathlib.Core.Logic.{inl, inr, ◌↔◌}
use mathlib.Core.Bool.{Bool, true, false, ◌&&◌, cond}
use mathlib.Core.List.{List, [], ◌∷◌}
use native.Mathlib.Omega.{arith}
use borrow.Author.Tests.{ltb-true, ltb-false, lt-ltb, le-ltb, leb-true, leb-false, le-leb, lt-leb, eqb-true}
use lib.Dec.{ltb, eqb}
use lib.ListN.{length}
use lib.IntN.{ℤ, pos, negsuc}
use Rattle.rules.specs.Basics.{every, same, is_from}
use Rattle.rules.specs.Forms.{is_currency}
use Rattle.rules.specs.LentLists.{unsigned}
use Rattle.rules.specs.Services.{low_bytes}
use Rattle.rules.specs.Totals.{is_in_range}
use Rattle.rules.specs.TotalNumbers.{total_number, total_in, currency_number, currency_in}
use Rattle.rules.proofs.Tests.{clash, both_true, every_true, is_from-true, same_true}
use Rattle.rules.proofs.LentLists.{unsigned-low}
use Rattle.rules.proofs.TotalNumbers.{total-read, total-small, currency-read, currency-written}
use Rattle.demands.specs.Totals.{IsCapital, AreLetters, IsTotal, of_sign}

-- a currency of the right form is three capitals, and its number is of them, the first in the lowest byte
pub letters_of : (c : List ℕ) → is_currency c ≡ true → AreLetters c (currency_number c)
unfolding unsigned
letters_of [] h = clash (cc)
letters_of (x ∷ []) h = clash (cc)
letters_of (x ∷ y ∷ []) h = clash (cc)
letters_of (x ∷ y ∷ z ∷ []) h =
    let (f, g) = every_true (is_from 65 90) x (y ∷ z ∷ []) h in
    let (i, j) = every_true (is_from 65 90) y (z ∷ []) g in
    let k = (every_true (is_from 65 90) z [] j).0 in
    (x, y, z, refl, is_from-true 65 90 x f, is_from-true 65 90 y i, is_from-true 65 90 z k, omega arith)
letters_of (x ∷ y ∷ z ∷ w ∷ c) h = clash (omega (arith, eqb-true (length (x ∷ y ∷ z ∷ w ∷ c)) 3 (both_true (eqb (length (x ∷ y ∷ z ∷ w ∷ c)) 3) _ h).0))

pub letters_in : (n : ℕ) → is_currency (currency_in n) ≡ true → AreLetters (currency_in n) n
letters_in n h = rw (currency-written n h) at (letters_of (currency_in n) h)

-- and the other way
pub letters-read : (c : List ℕ) (n : ℕ) → AreLetters c n → (n ≡ currency_number c) × (currency_in n ≡ c) × (is_currency c ≡ true)
unfolding every unsigned
letters-read c n (x, y, z, d, i, j, k, e) =
    let f : is_currency (x ∷ y ∷ z ∷ []) ≡ true = rw (capital x i, capital y j, capital z k) in
    let g : n ≡ currency_number (x ∷ y ∷ z ∷ []) = omega arith in
    rw d (g, rw g (currency-read (x ∷ y ∷ z ∷ []) f), f)
  where
    capital : (b : ℕ) → IsCapital b → is_from 65 90 b ≡ true
    capital b (l, m) = rw (le-leb 65 b l, le-leb b 90 m)

-- one text is of one number
currency-number : (n : ℕ) → n < 2 ^ 64 → currency_number (currency_in n) ≡ n
currency-number n h = go (ltb n (2 ^ 24)) refl
  where
    go : (b : Bool) → ltb n (2 ^ 24) ≡ b → currency_number (cond b (low_bytes 3 n) (low_bytes 8 n)) ≡ n
    go true e = unsigned-low 3 n (omega (arith, ltb-true n (2 ^ 24) e))
    go false e = unsigned-low 8 n (omega arith)

pub same-currency : (m n : ℕ) → m < 2 ^ 64 → n < 2 ^ 64 → same (currency_in m) (currency_in n) ≡ true → m ≡ n
same-currency m n h k e =
    sym (currency-number m h) ∙ ap currency_number (same_true (currency_in m) (currency_in n) e) ∙ currency-number n k

-- the range is of numbers of either sign
pub range_of : (negative : Bool) (n : ℕ) → is_in_range (of_sign negative n) ≡ true ↔ n ≤ 9_000_000_000_000_000_000
range_of false n = (leb-true n 9_000_000_000_000_000_000, le-leb n 9_000_000_000_000_000_000)
range_of true zero = (λ e. omega arith, λ l. refl)
range_of true (suc n) = (
  λ e. omega (arith, leb-true n 8_999_999_999_999_999_999 (both_true _ _ e).0),
  λ l. rw (le-leb n 8_999_999_999_999_999_999 (omega arith)),
)

-- a total in range is its number in two's complement
pub total_in_lem : (n : ℕ) → n < 2 ^ 64 → is_in_range (total_in n) ≡ true → IsTotal (total_in n) n
total_in_lem n h = go (ltb n (2 ^ 63)) refl
  where
    go : (b : Bool) → ltb n (2 ^ 63) ≡ b → is_in_range (cond b (pos n) (negsuc (2 ^ 64 - suc n))) ≡ true → IsTotal (cond b (pos n) (negsuc (2 ^ 64 - suc n))) n
    go true e i = (n, (range_of false n).0 i, inl (refl, refl))
    go false e i = (suc (2 ^ 64 - suc n), (range_of true (suc (2 ^ 64 - suc n))).0 i, inr (refl, omega arith, omega arith))

pub total_of : (z : ℤ) → is_in_range z ≡ true → IsTotal z (total_number z)
total_of z h = let e = total-read z h in rw e at (total_in_lem (total_number z) (total-small z h) (ap is_in_range e ∙ h))

-- and the other way
pub total-is : (z : ℤ) (n : ℕ) → IsTotal z n → (n ≡ total_number z) × (total_in n ≡ z)
total-is z n (m, l, inl (e, f)) = rw (e, f, lt-ltb m (2 ^ 63) (omega arith)) (refl, refl)
total-is z n (zero, l, inr (e, k, f)) = absurd (omega arith)
total-is z n (suc m, l, inr (e, k, f)) = rw (e, le-ltb n (2 ^ 63) (omega arith)) (omega arith, ap negsuc (omega arith))

-- what is in range has a number, and nothing else
pub total-range : (z : ℤ) {n : ℕ} → IsTotal z n → is_in_range z ≡ true
total-range z (m, l, inl (e, f)) = ap is_in_range e ∙ (range_of false m).1 l
total-range z (m, l, inr (e, k, f)) = ap is_in_range e ∙ (range_of true m).1 l

pub no_total : (z : ℤ) → is_in_range z ≡ false ↔ ((n : ℕ) → IsTotal z n → ⊥)
no_total z = (λ e n t. let f = total-range z t in clash (cc), λ h. go (is_in_range z) refl h)
  where
    go : (b : Bool) → is_in_range z ≡ b → ((n : ℕ) → IsTotal z n → ⊥) → b ≡ false
    go true e h = absurd (h (total_number z) (total_of z e))
    go false e h = refl

-- a total is out of range exactly if its number is between the ends
abbrev pub IsOutside : ℕ → Type 0
IsOutside n = (9_000_000_000_000_000_000 < n) × (n < 2 ^ 64 - 9_000_000_000_000_000_000)

pub outside-read : (n : ℕ) → n < 2 ^ 64 → IsOutside n ↔ is_in_range (total_in n) ≡ false
outside-read n h = go (ltb n (2 ^ 63)) refl
  where
    go : (b : Bool) → ltb n (2 ^ 63) ≡ b → IsOutside n ↔ is_in_range (cond b (pos n) (negsuc (2 ^ 64 - suc n))) ≡ false
    go true e = (
      λ (l, m). lt-leb n 9_000_000_000_000_000_000 l,
      λ f. (leb-false n 9_000_000_000_000_000_000 f, omega (arith, ltb-true n (2 ^ 63) e)),
    )
    go false e = (
      λ (l, m). rw (lt-leb (2 ^ 64 - suc n) 8_999_999_999_999_999_999 (omega arith)),
      λ f.
          let g = leb-false (2 ^ 64 - suc n) 8_999_999_999_999_999_999 (below _ f) in
          (omega (arith, ltb-false n (2 ^ 63) e), omega arith),
    )
      where
        below : (b : Bool) → (b && true) ≡ false → b ≡ false
        below true f = clash (cc)
        below false f = refl
