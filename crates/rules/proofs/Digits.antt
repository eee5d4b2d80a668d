-- From digits to the number that they write, for any count of digits.
use Prim.Native.Nat.{ℕ, zero, suc, ◌+◌, ◌-◌, ◌*◌, ◌/◌, ◌%◌, ◌^◌, ◌≤◌, ◌<◌}
use mathlib.Core.Path.{◌≡◌, refl, sym, ◌∙◌, ap, ap₂}
use mathlib.Core.Bool.{true}
use mathlib.Core.List.{List, [], ◌∷◌, ◌++◌}
use native.Mathlib.Nat.{add-mul, mul_assoc, mul_left_comm, mul-le-mul_right, pow-succ', pow-zero}
use native.Mathlib.Omega.{arith}
use native.Mathlib.Numerals.{add-one}
use native.Mathlib.Decide.{dec_le}
use borrow.Author.Tests.{le-leb}
use lib.ListN.{length, length-append}
use Rattle.rules.specs.Basics.{every, is_digit, decimal_from, decimal, digits_of}
use Rattle.rules.proofs.Tests.{is_from-true, every_true, every_append}

pub decimal_from-append : (n : ℕ) (a b : List ℕ) → decimal_from n (a ++ b) ≡ decimal_from (decimal_from n a) b
unfolding decimal_from
decimal_from-append n [] b = refl
decimal_from-append n (d ∷ a) b = decimal_from-append (10 * n + (d - 48)) a b

-- the digits before count by the place of the last of them
pub decimal_from-is : (n : ℕ) (ds : List ℕ) → decimal_from n ds ≡ n * 10 ^ length ds + decimal ds
unfolding decimal_from
decimal_from-is n [] = omega (arith, pow-zero 10)
decimal_from-is n (d ∷ ds) =
    let p = 10 ^ length ds in
    let e = d - 48 in
    omega (arith, decimal_from-is (10 * n + e) ds, decimal_from-is (10 * 0 + e) ds, add-mul (10 * n) e p, add-mul (10 * 0) e p, mul_assoc 10 n p, mul_left_comm n 10 p, ap (λ x. n * x) (pow-succ' 10 (length ds)))

pub decimal-append : (a b : List ℕ) → decimal (a ++ b) ≡ decimal a * 10 ^ length b + decimal b
decimal-append a b = decimal_from-append 0 a b ∙ decimal_from-is (decimal a) b

pub decimal-cons : (d : ℕ) (ds : List ℕ) → decimal (d ∷ ds) ≡ (d - 48) * 10 ^ length ds + decimal ds
unfolding decimal_from
decimal-cons d ds = omega (arith, decimal_from-is (10 * 0 + (d - 48)) ds, add-mul (10 * 0) (d - 48) (10 ^ length ds))

pub decimal-below : (ds : List ℕ) → every is_digit ds ≡ true → decimal ds < 10 ^ length ds
unfolding decimal_from
decimal-below [] h = omega (arith, pow-zero 10)
decimal-below (d ∷ ds) h =
    let (f, g) = every_true is_digit d ds h in
    let (low, high) = is_from-true 48 57 d f in
    let less : d - 48 ≤ 9 = omega arith in
    omega (arith, decimal-cons d ds, decimal-below ds g, mul-le-mul_right (10 ^ length ds) less, pow-succ' 10 (length ds))

-- a first digit of 1 or more
pub decimal-from : (d : ℕ) (ds : List ℕ) → 49 ≤ d → 10 ^ length ds ≤ decimal (d ∷ ds)
decimal-from d ds h =
    let more : 1 ≤ d - 48 = omega arith in
    omega (arith, decimal-cons d ds, mul-le-mul_right (10 ^ length ds) more)

-- of two numbers in a place the greater counts for more than all the digits after it
place_le : (d e p x y : ℕ) → x < p → d * p + x ≡ e * p + y → e ≤ d
place_le d e p x y h q = go (dec_le e d)
  where
    go : Dec (e ≤ d) → e ≤ d
    go (yes l) = l
    go (no n) =
        let l : suc d ≤ e = omega arith in
        absurd (omega (arith, mul-le-mul_right p l, add-mul d 1 p, ap (λ k. k * p) (add-one d)))

-- digits of one count that write one number are the same
pub decimal_injective : (a b : List ℕ) → length a ≡ length b → every is_digit a ≡ true → every is_digit b ≡ true → decimal a ≡ decimal b → a ≡ b
decimal_injective [] [] l f g e = refl
decimal_injective [] (d ∷ b) l f g e = absurd (omega arith)
decimal_injective (c ∷ a) [] l f g e = absurd (omega arith)
decimal_injective (c ∷ a) (d ∷ b) l f g e =
    let (f₀, f₁) = every_true is_digit c a f in
    let (g₀, g₁) = every_true is_digit d b g in
    let k : length a ≡ length b = omega arith in
    let p = 10 ^ length b in
    let x : decimal a < p = rw k at (decimal-below a f₁) in
    let q : (c - 48) * p + decimal a ≡ (d - 48) * p + decimal b = rw k at (sym (decimal-cons c a) ∙ e ∙ decimal-cons d b) in
    let r : c - 48 ≡ d - 48 = omega (arith, place_le _ _ p _ _ x q, place_le _ _ p _ _ (decimal-below b g₁) (sym q)) in
    let s : c ≡ d = omega (arith, is_from-true 48 57 c f₀, is_from-true 48 57 d g₀) in
    let t : decimal a ≡ decimal b = omega (arith, rw r at q) in
    ap₂ ◌∷◌ s (decimal_injective a b k f₁ g₁ t)

-- the digits of a number: how many, that they are digits, and that they write it
pub digits_of-length : (n k : ℕ) → length (digits_of n k) ≡ n
unfolding digits_of
digits_of-length zero k = refl
digits_of-length (suc n) k = omega (arith, length-append (digits_of n (k / 10)) ((48 + k % 10) ∷ []), digits_of-length n (k / 10))

pub is_digit_lem : (k : ℕ) → is_digit (48 + k % 10) ≡ true
is_digit_lem k = rw (le-leb 48 (48 + k % 10) (omega arith), le-leb (48 + k % 10) 57 (omega arith))

pub digits_of-digits : (n k : ℕ) → every is_digit (digits_of n k) ≡ true
unfolding digits_of every
digits_of-digits zero k = refl
digits_of-digits (suc n) k = every_append is_digit (digits_of n (k / 10)) ((48 + k % 10) ∷ []) (digits_of-digits n (k / 10)) (rw (is_digit_lem k))

pub digits_of-decimal : (n k : ℕ) → k < 10 ^ n → decimal (digits_of n k) ≡ k
unfolding digits_of decimal_from
digits_of-decimal zero k h = omega (arith, pow-zero 10)
digits_of-decimal (suc n) k h =
    omega (arith, decimal-append (digits_of n (k / 10)) ((48 + k % 10) ∷ []), digits_of-decimal n (k / 10) (omega (arith, pow-succ' 10 n)))
