-- Currencies and totals as code asks for them: by bytes, and by ranges of numbers in two's complement.
use Rattle.std.proofs.Common.{◌≡◌, ℕ, zero, suc, ◌+◌, ◌-◌, ◌/◌, ◌%◌, ◌^◌, ◌<◌, ◌≤◌, Bool, true, false, cond, ◌&&◌, ◌||◌, ltb, leb, ◌⊎◌, pos, negsuc, ◌+ℤ◌, neg_ℤ, sym, refl, ap, ◌∙◌, inl, inr, arith, ltb-false, ltb-true, le-ltb, lt-ltb, le-leb, leb-false, leb-true}
use mathlib.Core.Bool.{and-true, and_assoc}
use borrow.Author.Tests.{lt-leb}
use lib.IntN.{sub_ℕ}
use Rattle.rules.specs.Basics.{every, is_from}
use Rattle.rules.specs.Forms.{is_currency}
use Rattle.rules.specs.Services.{low_bytes}
use Rattle.rules.specs.Totals.{is_in_range}
use Rattle.rules.specs.TotalNumbers.{total_in, currency_in}
use Rattle.form.specs.Amounts.{sign_of}
use Rattle.rules.proofs.Tests.{clash, neither, both_true}
use Rattle.totals.specs.Readings.{Small}

-- three capitals and no more
pub no_currency : (n : ℕ) → 0xFF_FFFF < n → false ≡ is_currency (currency_in n)
unfolding low_bytes
no_currency n h = rw (le-ltb n (2 ^ 24) (omega arith))

pub three_capitals : (n : ℕ) → n ≤ 0xFF_FFFF
    → (is_from 65 90 (n % 256) && is_from 65 90 (n / 256 % 256) && is_from 65 90 (n / 65_536 % 256)) ≡ is_currency (currency_in n)
unfolding low_bytes every
three_capitals n h =
    let e : n / 65_536 ≡ n / 256 / 256 = omega arith in
    rw (lt-ltb n (2 ^ 24) (omega arith), e, and-true (is_from 65 90 (n / 256 / 256 % 256)))
    (and_assoc (is_from 65 90 (n % 256)) (is_from 65 90 (n / 256 % 256)) (is_from 65 90 (n / 256 / 256 % 256)))

-- a total in range
pub range-numbers : (n : ℕ) → n < 2 ^ 64 → (leb n 9_000_000_000_000_000_000 || leb 9_446_744_073_709_551_616 n) ≡ is_in_range (total_in n)
range-numbers n h = go (ltb n (2 ^ 63)) refl
  where
    or-none : (b : Bool) → (b || false) ≡ b
    or-none true = refl
    or-none false = refl

    below : (b : Bool) → leb 9_446_744_073_709_551_616 n ≡ b → b ≡ (leb (2 ^ 64 - suc n) 8_999_999_999_999_999_999 && true)
    below true e = rw (le-leb (2 ^ 64 - suc n) 8_999_999_999_999_999_999 (omega (arith, leb-true 9_446_744_073_709_551_616 n e)))
    below false e = rw (lt-leb (2 ^ 64 - suc n) 8_999_999_999_999_999_999 (omega (arith, leb-false 9_446_744_073_709_551_616 n e)))

    go : (b : Bool) → ltb n (2 ^ 63) ≡ b
        → (leb n 9_000_000_000_000_000_000 || leb 9_446_744_073_709_551_616 n) ≡ is_in_range (cond b (pos n) (negsuc (2 ^ 64 - suc n)))
    go true e = rw (lt-leb 9_446_744_073_709_551_616 n (omega (arith, ltb-true n (2 ^ 63) e))) (or-none (leb n 9_000_000_000_000_000_000))
    go false e = rw (lt-leb n 9_000_000_000_000_000_000 (omega (arith, ltb-false n (2 ^ 63) e))) (below (leb 9_446_744_073_709_551_616 n) refl)

-- an amount in two's complement
pub positive_number : (v : ℕ) → v < 10 ^ 16 → Small v × (total_in v ≡ pos v)
positive_number v h = (inl h, rw (lt-ltb v (2 ^ 63) (omega arith)))

pub negative_number : (v : ℕ) → 0 < v → v < 10 ^ 16 → Small (18_446_744_073_709_551_615 - v + 1) × (total_in (18_446_744_073_709_551_615 - v + 1) ≡ neg_ℤ (pos v))
negative_number zero l h = clash (omega arith)
negative_number (suc v) l h = (
  inr (omega arith),
  rw (le-ltb (18_446_744_073_709_551_615 - suc v + 1) (2 ^ 63) (omega arith)) (ap negsuc (omega arith)),
)

-- the number of a sum is the sum of the numbers, as long as it has 64 bits: of two signs
mixed : (x y : ℕ) → x < 2 ^ 63 → 2 ^ 63 ≤ y → y < 2 ^ 64 → total_in ((x + y) % 2 ^ 64) ≡ sub_ℕ x (suc (2 ^ 64 - suc y))
mixed x y h i j = go (ltb x (suc (2 ^ 64 - suc y))) refl
  where
    go : (b : Bool) → ltb x (suc (2 ^ 64 - suc y)) ≡ b → total_in ((x + y) % 2 ^ 64) ≡ cond b (negsuc (suc (2 ^ 64 - suc y) - suc x)) (pos (x - suc (2 ^ 64 - suc y)))
    go true e =
        let l = ltb-true x (suc (2 ^ 64 - suc y)) e in
        let n : (x + y) % 2 ^ 64 ≡ x + y = omega arith in
        rw (n, le-ltb (x + y) (2 ^ 63) (omega arith)) (ap negsuc (omega arith))
    go false e =
        let l = ltb-false x (suc (2 ^ 64 - suc y)) e in
        let n : (x + y) % 2 ^ 64 ≡ x + y - 2 ^ 64 = omega arith in
        rw (n, lt-ltb (x + y - 2 ^ 64) (2 ^ 63) (omega arith)) (ap pos (omega arith))

-- of a total in range and an amount
sum_of : (a b : ℕ) → (a ≤ 9_000_000_000_000_000_000) ⊎ ((9_446_744_073_709_551_616 ≤ a) × (a < 2 ^ 64)) → Small b → total_in ((a + b) % 2 ^ 64) ≡ total_in a +ℤ total_in b
sum_of a b (inl h) (inl s) =
    let n : (a + b) % 2 ^ 64 ≡ a + b = omega arith in
    rw (n, lt-ltb a (2 ^ 63) (omega arith), lt-ltb b (2 ^ 63) (omega arith), lt-ltb (a + b) (2 ^ 63) (omega arith))
sum_of a b (inl h) (inr s) = rw (lt-ltb a (2 ^ 63) (omega arith), le-ltb b (2 ^ 63) (omega arith)) (mixed a b (omega arith) (omega arith) (omega arith))
sum_of a b (inr h) (inl s) =
    let n : a + b ≡ b + a = omega arith in
    rw (n, le-ltb a (2 ^ 63) (omega arith), lt-ltb b (2 ^ 63) (omega arith)) (mixed b a (omega arith) (omega arith) (omega arith))
sum_of a b (inr h) (inr s) =
    let n : (a + b) % 2 ^ 64 ≡ a + b - 2 ^ 64 = omega arith in
    rw (n, le-ltb a (2 ^ 63) (omega arith), le-ltb b (2 ^ 63) (omega arith), le-ltb (a + b - 2 ^ 64) (2 ^ 63) (omega arith)) (ap negsuc (omega arith))

pub sum-numbers : (a b : ℕ) → a < 2 ^ 64 → is_in_range (total_in a) ≡ true → Small b → total_in ((a + b) % 2 ^ 64) ≡ total_in a +ℤ total_in b
sum-numbers a b l r s = go (leb a 9_000_000_000_000_000_000) (leb 9_446_744_073_709_551_616 a) refl refl (range-numbers a l ∙ r)
  where
    go : (x y : Bool) → leb a 9_000_000_000_000_000_000 ≡ x → leb 9_446_744_073_709_551_616 a ≡ y → (x || y) ≡ true → total_in ((a + b) % 2 ^ 64) ≡ total_in a +ℤ total_in b
    go true y e f h = sum_of a b (inl (leb-true a 9_000_000_000_000_000_000 e)) s
    go false true e f h = sum_of a b (inr (leb-true 9_446_744_073_709_551_616 a f, l)) s
    go false false e f h = clash (cc)

-- counts, each of which is compared before they are added up
pub over_one : (a b c : ℕ) → (ltb 1_000_000 a || ltb 1_000_000 b || ltb 1_000_000 c) ≡ true → true ≡ ltb 1_000_000 (a + b + c)
over_one a b c = go (ltb 1_000_000 a) (ltb 1_000_000 b) (ltb 1_000_000 c) refl refl refl
  where
    go : (x y z : Bool) → ltb 1_000_000 a ≡ x → ltb 1_000_000 b ≡ y → ltb 1_000_000 c ≡ z → (x || y || z) ≡ true → true ≡ ltb 1_000_000 (a + b + c)
    go true y z e f g h = sym (lt-ltb 1_000_000 (a + b + c) (omega (arith, ltb-true 1_000_000 a e)))
    go false true z e f g h = sym (lt-ltb 1_000_000 (a + b + c) (omega (arith, ltb-true 1_000_000 b f)))
    go false false true e f g h = sym (lt-ltb 1_000_000 (a + b + c) (omega (arith, ltb-true 1_000_000 c g)))
    go false false false e f g h = clash (cc)

pub none_over : (a b c : ℕ) → (ltb 1_000_000 a || ltb 1_000_000 b || ltb 1_000_000 c) ≡ false → (a ≤ 1_000_000) × (b ≤ 1_000_000) × (c ≤ 1_000_000)
none_over a b c h =
    let (i, z) = neither (ltb 1_000_000 a || ltb 1_000_000 b) (ltb 1_000_000 c) h in
    let (x, y) = neither (ltb 1_000_000 a) (ltb 1_000_000 b) i in
    (ltb-false 1_000_000 a x, ltb-false 1_000_000 b y, ltb-false 1_000_000 c z)

-- the sign of an amount, if it is not zero
pub above_zero : (negative : Bool) (v : ℕ) → (negative && ltb 0 v) ≡ true → (negative ≡ true) × (0 < v)
above_zero negative v h = let (a, b) = both_true negative (ltb 0 v) h in (a, ltb-true 0 v b)

pub negative_read : (negative : Bool) (v : ℕ) → v < 10 ^ 16 → (negative && ltb 0 v) ≡ true
    → Small (18_446_744_073_709_551_615 - v + 1) × (total_in (18_446_744_073_709_551_615 - v + 1) ≡ sign_of negative (pos v))
negative_read negative v h e = let (a, b) = above_zero negative v e in rw a (negative_number v b h)

pub positive_read : (negative : Bool) (v : ℕ) → v < 10 ^ 16 → (negative && ltb 0 v) ≡ false → Small v × (total_in v ≡ sign_of negative (pos v))
positive_read false v h e = positive_number v h
positive_read true zero h e = positive_number zero h
positive_read true (suc v) h e = clash (omega (arith, ltb-false 0 (suc v) e))
