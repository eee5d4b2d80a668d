-- Currencies, totals and rows as numbers: what is written is read back, what is read is written back, and each has 64 bits.
use Prim.Native.Nat.{ℕ, zero, suc, ◌-◌, ◌*◌, ◌^◌, ◌<◌}
use mathlib.Core.Path.{◌≡◌, refl, ap}
use mathlib.Core.Bool.{Bool, true, false, not, cond}
use mathlib.Core.List.{List, [], ◌∷◌, ◌++◌, flat_map}
use native.Mathlib.Omega.{arith}
use borrow.Author.Tests.{ltb-true, lt-ltb, le-ltb, leb-true, eqb-true, not-false}
use lib.Dec.{leb, ltb, eqb}
use lib.ListN.{length, drop}
use lib.IntN.{ℤ, pos, negsuc}
use Rattle.rules.specs.Basics.{exists, every, is_from}
use Rattle.rules.specs.Forms.{is_currency}
use Rattle.rules.specs.LentLists.{is_byte, unsigned}
use Rattle.rules.specs.Services.{low_bytes}
use Rattle.rules.specs.Totals.{Row, is_in_range}
use Rattle.rules.specs.TotalNumbers.{is64, total_number, total_in, currency_number, currency_in, row_numbers}
use Rattle.rules.proofs.Tests.{clash, neither, both_true, every_true, is_from-true}
use Rattle.rules.proofs.LentLists.{unsigned-low, unsigned-below, low_unsigned}

-- a total
pub total-read : (z : ℤ) → is_in_range z ≡ true → total_in (total_number z) ≡ z
total-read (pos n) h = let l = leb-true n 9_000_000_000_000_000_000 h in rw (lt-ltb n (2 ^ 63) (omega arith))
total-read (negsuc n) h =
    let l = leb-true n 8_999_999_999_999_999_999 (both_true (leb n 8_999_999_999_999_999_999) true h).0 in
    rw (le-ltb (2 ^ 64 - suc n) (2 ^ 63) (omega arith)) (ap negsuc (omega arith))

pub total-written : (n : ℕ) → n < 2 ^ 64 → total_number (total_in n) ≡ n
total-written n h = go (ltb n (2 ^ 63)) refl
  where
    go : (b : Bool) → ltb n (2 ^ 63) ≡ b → total_number (cond b (pos n) (negsuc (2 ^ 64 - suc n))) ≡ n
    go true e = refl
    go false e = omega arith

pub total-small : (z : ℤ) → is_in_range z ≡ true → total_number z < 2 ^ 64
total-small (pos n) h = let l = leb-true n 9_000_000_000_000_000_000 h in omega arith
total-small (negsuc n) h = omega arith

-- a currency
capitals_bytes : (c : List ℕ) → every (is_from 65 90) c ≡ true → every is_byte c ≡ true
unfolding every
capitals_bytes [] h = refl
capitals_bytes (b ∷ c) h =
    let (f, g) = every_true (is_from 65 90) b c h in
    let l = is_from-true 65 90 b f in
    rw (lt-ltb b 256 (omega arith), capitals_bytes c g)

three-letters : (c : List ℕ) → is_currency c ≡ true → (length c ≡ 3) × (every is_byte c ≡ true)
three-letters c h = let (l, e) = both_true (eqb (length c) 3) (every (is_from 65 90) c) h in (eqb-true (length c) 3 l, capitals_bytes c e)

pub currency-small : (c : List ℕ) → is_currency c ≡ true → currency_number c < 2 ^ 24
currency-small c h = let (l, b) = three-letters c h in omega (arith, unsigned-below c b, ap (λ n. 256 ^ n) l)

pub currency-read : (c : List ℕ) → is_currency c ≡ true → currency_in (currency_number c) ≡ c
currency-read c h =
    let (l, b) = three-letters c h in
    rw (lt-ltb (unsigned c) (2 ^ 24) (currency-small c h)) (rw l at (low_unsigned c b))

pub currency-written : (n : ℕ) → is_currency (currency_in n) ≡ true → currency_number (currency_in n) ≡ n
unfolding low_bytes
currency-written n = go (ltb n (2 ^ 24)) refl
  where
    go : (b : Bool) → ltb n (2 ^ 24) ≡ b → is_currency (cond b (low_bytes 3 n) (low_bytes 8 n)) ≡ true → currency_number (cond b (low_bytes 3 n) (low_bytes 8 n)) ≡ n
    go true e h = unsigned-low 3 n (omega (arith, ltb-true n (2 ^ 24) e))
    go false e h = clash (cc)

pub currency_64 : (c : List ℕ) → is_currency c ≡ true → currency_number c < 2 ^ 64
currency_64 c h = omega (arith, currency-small c h)

-- rows
pub row-numbers : (rows : List Row) → length (flat_map row_numbers rows) ≡ 2 * length rows
unfolding flat_map
row-numbers [] = refl
row-numbers (r ∷ rows) = let e = row-numbers rows in omega arith

pub rows-small : (rows : List Row) → exists (λ r. not (is_currency r.currency)) rows ≡ false → exists (λ r. not (is_in_range r.total)) rows ≡ false
    → every is64 (flat_map row_numbers rows) ≡ true
unfolding exists every flat_map
rows-small [] f w = refl
rows-small (r ∷ rows) f w =
    let (a, b) = neither _ _ f in
    let (c, d) = neither _ _ w in
    rw (lt-ltb _ (2 ^ 64) (currency_64 r.currency (not-false _ a)), lt-ltb _ (2 ^ 64) (total-small r.total (not-false _ c)), rows-small rows b d)

-- numbers of 64 bits stay so
pub every_append : (p : ℕ → Bool) (a b : List ℕ) → every p a ≡ true → every p b ≡ true → every p (a ++ b) ≡ true
unfolding every
every_append p [] b h k = k
every_append p (x ∷ a) b h k = let (i, j) = both_true (p x) (every p a) h in rw (i, every_append p a b j k)

pub every_drop : (p : ℕ → Bool) (n : ℕ) (a : List ℕ) → every p a ≡ true → every p (drop n a) ≡ true
unfolding every
every_drop p zero a h = h
every_drop p (suc n) [] h = refl
every_drop p (suc n) (x ∷ a) h = every_drop p n a (both_true (p x) (every p a) h).1
