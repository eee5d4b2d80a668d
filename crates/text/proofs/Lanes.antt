-- Bytes taken together as one number: what operations on the number do to each byte, for any count of them.
use Prim.Native.Nat.{ℕ, zero, suc, ◌+◌, ◌-◌, ◌*◌, ◌/◌, ◌%◌, ◌^◌, ◌≤◌, ◌<◌}
use mathlib.Core.Path.{◌≡◌, refl, ap}
use mathlib.Core.Bool.{Bool, true, false, not, ◌&&◌, cond, false≢true}
use mathlib.Core.List.{List, [], ◌∷◌, ◌++◌, map}
use native.Mathlib.Nat.{pow-succ', pow-zero, zero-div, div-div-eq-div-mul, add-zero, zero-add, mul_assoc}
use native.Mathlib.Numerals.{add-one}
use native.Mathlib.Omega.{arith}
use borrow.Author.Tests.{not-true, ltb-true, ltb-false, lt-ltb, le-ltb, eqb-true, eqb-false, eq-eqb, ne_eqb}
use lib.Bits.{bit_and, bit_xor, and_block, xor_block, and_zero_l, xor_zero_l, xor_lt}
use lib.Dec.{eqb, ltb}
use lib.ListN.{length, get_or, take, drop, length-drop}
use lib.Seq.{drop-drop}
use Rattle.rules.specs.Basics.{every, is_digit, decimal_from, decimal}
use Rattle.rules.specs.LentLists.{is_byte, unsigned}
use Rattle.rules.proofs.Tests.{every_true, is_from-true, passes, passed}
use Rattle.text.proofs.Numerals.{decimal_more}
use Rattle.text.proofs.Reading.{here}

-- the word of n bytes that are all c
unfoldable pub filled : (c n : ℕ) → ℕ
filled c zero = 0
filled c (suc n) = c + 256 * filled c n

-- the word of a list is that of its first bytes and, above them, of the others
pub word_split : (m n : ℕ) (l : List ℕ) → m ≤ length l → unsigned (take (m + n) l) ≡ unsigned (take m l) + 256 ^ m * unsigned (take n (drop m l))
unfolding unsigned
word_split zero n l h = rw (zero-add n, pow-zero 256) (omega arith)
word_split (suc m) n [] h = absurd (omega arith)
word_split (suc m) n (b ∷ l) h =
    let z : suc m + n ≡ suc (m + n) = omega arith in
    rw (z, pow-succ' 256 m, mul_assoc 256 (256 ^ m) (unsigned (take n (drop m l)))) (omega (arith, word_split m n l (omega arith)))

pub word_append : (a b : List ℕ) → unsigned (a ++ b) ≡ unsigned a + 256 ^ length a * unsigned b
unfolding unsigned
word_append [] b = rw (pow-zero 256) (omega arith)
word_append (c ∷ a) b = rw (pow-succ' 256 (length a), mul_assoc 256 (256 ^ length a) (unsigned b)) (omega (arith, word_append a b))

pub word_two : (s : List ℕ) (at : ℕ) → at + 2 ≤ length s → unsigned (take 2 (drop at s)) ≡ get_or s at 0 + 256 * get_or s (at + 1) 0
unfolding unsigned
word_two s at h = rw (here s at (omega arith), here s (at + 1) (omega arith)) (omega arith)

pub word_four : (s : List ℕ) (at : ℕ) → at + 4 ≤ length s
    → unsigned (take 4 (drop at s)) ≡ unsigned (take 2 (drop at s)) + 0x1_0000 * unsigned (take 2 (drop (at + 2) s))
word_four s at h = rw (← drop-drop 2 at s) (word_split 2 2 (drop at s) (rw length-drop (omega arith)))

-- the lowest byte, and those above it
and_byte : (r s a b : ℕ) → r < 256 → s < 256 → bit_and (r + 256 * a) (s + 256 * b) ≡ bit_and r s + 256 * bit_and a b
and_byte r s a b h k =
    let p : r + 256 * a ≡ a * 2 ^ 8 + r = omega arith in
    let q : s + 256 * b ≡ b * 2 ^ 8 + s = omega arith in
    rw (p, q, and_block 8 a b r s h k) (omega arith)

xor_byte : (r s a b : ℕ) → r < 256 → s < 256 → bit_xor (r + 256 * a) (s + 256 * b) ≡ bit_xor r s + 256 * bit_xor a b
xor_byte r s a b h k =
    let p : r + 256 * a ≡ a * 2 ^ 8 + r = omega arith in
    let q : s + 256 * b ≡ b * 2 ^ 8 + s = omega arith in
    rw (p, q, xor_block 8 a b r s h k) (omega arith)

-- exclusive or with a byte, everywhere
pub xor_each : (c : ℕ) (l : List ℕ) → c < 256 → every is_byte l ≡ true → bit_xor (unsigned l) (filled c (length l)) ≡ unsigned (map (λ b. bit_xor b c) l)
unfolding unsigned filled
xor_each c [] h e = xor_zero_l 0
xor_each c (b ∷ l) h e =
    let (f, g) = every_true is_byte b l e in
    rw (xor_byte b c (unsigned l) (filled c (length l)) (ltb-true b 256 f) h, xor_each c l h g) refl

-- addition everywhere, as long as no sum leaves its byte or not
pub add-each : (c : ℕ) (l : List ℕ) → unsigned l + filled c (length l) ≡ unsigned (map (λ b. b + c) l)
unfolding unsigned filled
add-each c [] = refl
add-each c (b ∷ l) = omega (arith, add-each c l)

-- four upper bits that are zero everywhere
upper_computed : passes 256 (λ b. cond (ltb b 16) (eqb (bit_and b 240) 0) (not (eqb (bit_and b 240) 0))) ≡ true
unfolding passes
upper_computed = refl

upper_zero : (b : ℕ) → b < 256 → eqb (bit_and b 240) 0 ≡ ltb b 16
upper_zero b h = go (ltb b 16) (eqb (bit_and b 240) 0) (passed 256 _ b upper_computed h)
  where
    go : (x y : Bool) → cond x y (not y) ≡ true → y ≡ x
    go true y e = e
    go false false e = refl
    go false true e = absurd (false≢true e)

sum-zero : (x y : ℕ) → eqb (x + 256 * y) 0 ≡ (eqb x 0 && eqb y 0)
sum-zero x y = go (eqb x 0) refl (eqb y 0) refl
  where
    go : (p : Bool) → eqb x 0 ≡ p → (q : Bool) → eqb y 0 ≡ q → eqb (x + 256 * y) 0 ≡ (p && q)
    go true e true f = eq-eqb (x + 256 * y) 0 (omega (arith, eqb-true x 0 e, eqb-true y 0 f))
    go true e false f = ne_eqb (x + 256 * y) 0 (λ z. eqb-false y 0 f (omega arith))
    go false e q f = ne_eqb (x + 256 * y) 0 (λ z. eqb-false x 0 e (omega arith))

pub uppers_zero : (l : List ℕ) → every is_byte l ≡ true → eqb (bit_and (unsigned l) (filled 240 (length l))) 0 ≡ every (λ b. ltb b 16) l
unfolding unsigned filled every
uppers_zero [] e = ap (λ (x : ℕ). eqb x 0) (and_zero_l 0)
uppers_zero (b ∷ l) e =
    let (f, g) = every_true is_byte b l e in
    let h = ltb-true b 256 f in
    rw (and_byte b 240 (unsigned l) (filled 240 (length l)) h (omega arith), sum-zero (bit_and b 240) (bit_and (unsigned l) (filled 240 (length l))), upper_zero b h, uppers_zero l g) refl

-- bytes of at most c
pub each-most : (c : ℕ) (l : List ℕ) → every (λ b. ltb b (suc c)) l ≡ true → unsigned l ≤ filled c (length l)
unfolding unsigned filled
each-most c [] e = omega arith
each-most c (b ∷ l) e = let (f, g) = every_true (λ b. ltb b (suc c)) b l e in omega (arith, ltb-true b (suc c) f, each-most c l g)

-- the byte at a place
pub lane : (l : List ℕ) (j : ℕ) → every is_byte l ≡ true → unsigned l / 256 ^ j % 256 ≡ get_or l j 0
unfolding unsigned
lane [] j e = rw (zero-div (256 ^ j)) refl
lane (b ∷ l) zero e = let h = ltb-true b 256 (every_true is_byte b l e).0 in rw (pow-zero 256) (omega arith)
lane (b ∷ l) (suc j) e =
    let (f, g) = every_true is_byte b l e in
    let h = ltb-true b 256 f in
    let z : (b + 256 * unsigned l) / 256 ≡ unsigned l = omega arith in
    rw (pow-succ' 256 j, ← div-div-eq-div-mul (b + 256 * unsigned l) 256 (256 ^ j), z) (lane l j g)

-- what is left of a digit's byte is the digit; of any other more than nine
unfoldable pub left : ℕ → ℕ
left b = bit_xor b 48

left_computed : passes 256 (λ b. cond (is_digit b) (eqb (left b) (b - 48)) (not (ltb (left b) 10))) ≡ true
unfolding passes left
left_computed = refl

left_digit : (b : ℕ) → b < 256 → is_digit b ≡ true → left b ≡ b - 48
left_digit b h e = eqb-true (left b) (b - 48) (go (is_digit b) _ _ e (passed 256 _ b left_computed h))
  where
    go : (x p q : Bool) → x ≡ true → cond x p q ≡ true → p ≡ true
    go true p q e f = f
    go false p q e f = absurd (false≢true e)

left_ten : (b : ℕ) → b < 256 → ltb (left b) 10 ≡ is_digit b
left_ten b h = go (is_digit b) refl (passed 256 _ b left_computed h)
  where
    go : (x : Bool) → is_digit b ≡ x → cond x (eqb (left b) (b - 48)) (not (ltb (left b) 10)) ≡ true → ltb (left b) 10 ≡ x
    go true e f = let (low, high) = is_from-true 48 57 b e in lt-ltb (left b) 10 (omega (arith, left_digit b h e))
    go false e f = not-true _ f

abbrev pub leftovers : List ℕ → List ℕ
leftovers = map left

pub leftovers_bytes : (l : List ℕ) → every is_byte l ≡ true → every is_byte (leftovers l) ≡ true
unfolding every left
leftovers_bytes [] e = refl
leftovers_bytes (b ∷ l) e =
    let (f, g) = every_true is_byte b l e in
    rw (lt-ltb (bit_xor b 48) 256 (xor_lt 8 b 48 (ltb-true b 256 f) (omega arith)), leftovers_bytes l g) refl

pub all_digits : (l : List ℕ) → every is_byte l ≡ true → every (λ b. ltb b 10) (leftovers l) ≡ every is_digit l
unfolding every
all_digits [] e = refl
all_digits (b ∷ l) e = let (f, g) = every_true is_byte b l e in rw (left_ten b (ltb-true b 256 f), all_digits l g) refl

-- with six more, the upper bits of what is at most nine are zero still
pub six_bytes : (l : List ℕ) → every (λ b. ltb b 16) l ≡ true → every is_byte (map (λ b. b + 6) l) ≡ true
unfolding every
six_bytes [] e = refl
six_bytes (b ∷ l) e =
    let (f, g) = every_true (λ b. ltb b 16) b l e in
    rw (lt-ltb (b + 6) 256 (omega (arith, ltb-true b 16 f)), six_bytes l g) refl

pub six_more : (l : List ℕ) → every (λ b. ltb b 16) (map (λ b. b + 6) l) ≡ every (λ b. ltb b 10) l
unfolding every
six_more [] = refl
six_more (b ∷ l) = rw (same b, six_more l) refl
  where
    same : (b : ℕ) → ltb (b + 6) 16 ≡ ltb b 10
    same b = go (ltb b 10) refl
      where
        go : (x : Bool) → ltb b 10 ≡ x → ltb (b + 6) 16 ≡ x
        go true e = lt-ltb (b + 6) 16 (omega (arith, ltb-true b 10 e))
        go false e = le-ltb (b + 6) 16 (omega (arith, ltb-false b 10 e))

pub left_at : (l : List ℕ) (j : ℕ) → every is_byte l ≡ true → every is_digit l ≡ true → j < length l → get_or (leftovers l) j 0 ≡ get_or l j 0 - 48
left_at [] j e d h = absurd (omega arith)
left_at (b ∷ l) zero e d h = left_digit b (ltb-true b 256 (every_true is_byte b l e).0) (every_true is_digit b l d).0
left_at (b ∷ l) (suc j) e d h = left_at l j (every_true is_byte b l e).1 (every_true is_digit b l d).1 (omega arith)

-- ten times each byte, and the next
pub pairs : List ℕ → List ℕ
pairs [] = []
pairs (a ∷ []) = (10 * a) ∷ []
pairs (a ∷ b ∷ l) = (10 * a + b) ∷ pairs (b ∷ l)

pub pairs_word : (a : ℕ) (l : List ℕ) → unsigned (pairs (a ∷ l)) ≡ 10 * unsigned (a ∷ l) + unsigned l
unfolding pairs unsigned
pairs_word a [] = omega arith
pairs_word a (b ∷ l) = omega (arith, pairs_word b l)

pub pair_at : (l : List ℕ) (j : ℕ) → j < length l → get_or (pairs l) j 0 ≡ 10 * get_or l j 0 + get_or l (suc j) 0
unfolding pairs
pair_at [] j h = absurd (omega arith)
pair_at (a ∷ []) zero h = omega arith
pair_at (a ∷ []) (suc j) h = absurd (omega arith)
pair_at (a ∷ b ∷ l) zero h = refl
pair_at (a ∷ b ∷ l) (suc j) h = pair_at (b ∷ l) j (omega arith)

pub pairs_bytes : (l : List ℕ) → every (λ b. ltb b 10) l ≡ true → every is_byte (pairs l) ≡ true
unfolding pairs every
pairs_bytes [] e = refl
pairs_bytes (a ∷ []) e = let h = ltb-true a 10 (every_true (λ b. ltb b 10) a [] e).0 in rw (lt-ltb (10 * a) 256 (omega arith)) refl
pairs_bytes (a ∷ b ∷ l) e =
    let (f, g) = every_true (λ b. ltb b 10) a (b ∷ l) e in
    let h = ltb-true a 10 f in
    let k = ltb-true b 10 (every_true (λ b. ltb b 10) b l g).0 in
    rw (lt-ltb (10 * a + b) 256 (omega arith), pairs_bytes (b ∷ l) g) refl

pub pairs_number : (l : List ℕ) → every is_byte l ≡ true → 10 * unsigned l + unsigned l / 256 ≡ unsigned (pairs l)
unfolding pairs unsigned
pairs_number [] e = refl
pairs_number (a ∷ l) e = let h = ltb-true a 256 (every_true is_byte a l e).0 in omega (arith, pairs_word a l)

-- two digits at a place
pub two_digits : (l : List ℕ) (j : ℕ) → suc j < length l → decimal (take 2 (drop j l)) ≡ 10 * (get_or l j 0 - 48) + (get_or l (suc j) 0 - 48)
unfolding decimal_from
two_digits l j h = omega (arith, decimal_more l j 1 (omega arith), decimal_more l j 0 (omega arith), ap (λ (i : ℕ). get_or l i 0) (add-one j), ap (λ (i : ℕ). get_or l i 0) (add-zero j))
