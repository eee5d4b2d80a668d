-- A word of eight bytes: when all of them are digits, and the four numbers that they write by twos.
use Prim.Native.Nat.{ℕ, suc, ◌+◌, ◌*◌, ◌/◌, ◌%◌, ◌^◌, ◌≤◌, ◌<◌}
use mathlib.Core.Path.{◌≡◌, refl, sym, ◌∙◌, subst}
use mathlib.Core.Bool.{Bool, true, false}
use mathlib.Core.List.{List, map}
use native.Mathlib.Omega.{arith}
use borrow.Author.Tests.{ltb-true, lt-ltb, eqb-true, eq-eqb, ne_eqb}
use lib.Bits.{bit_and, bit_xor}
use lib.Dec.{ltb, eqb}
use lib.ListN.{length, take, drop, length-map}
use Rattle.rules.specs.Basics.{every, is_digit, decimal}
use Rattle.rules.specs.LentLists.{unsigned}
use Rattle.rules.specs.Services.{low_bytes}
use Rattle.rules.proofs.Tests.{every_map}
use Rattle.rules.proofs.LentLists.{unsigned-low}
use Rattle.rules.proofs.PrintingCases.{low-bytes}
use Rattle.text.specs.Words.{AreEight}
use Rattle.text.proofs.Lanes.{left, filled, xor_each, add-each, uppers_zero, each-most, lane, leftovers, leftovers_bytes, all_digits, left_at, six_bytes, six_more, pairs, pair_at, pairs_bytes, pairs_number, two_digits}

module _ (w : ℕ) (l : List ℕ) (eight : AreEight l) (e : w ≡ unsigned l) where
  size : length (leftovers l) ≡ 8
  size = length-map l _ ∙ eight.0

  pub word_left : bit_xor w 0x3030_3030_3030_3030 ≡ unsigned (leftovers l)
  unfolding filled left
  word_left = rw e (subst (λ (n : ℕ). bit_xor (unsigned l) (filled 48 n) ≡ unsigned (leftovers l)) eight.0 (xor_each 48 l (omega arith) eight.1))

  -- the first test: what is left of each byte has no upper bit
  first : eqb (bit_and (bit_xor w 0x3030_3030_3030_3030) 0xF0F0_F0F0_F0F0_F0F0) 0 ≡ every (λ b. ltb b 16) (leftovers l)
  unfolding filled
  first = rw word_left (subst (λ (n : ℕ). eqb (bit_and (unsigned (leftovers l)) (filled 240 n)) 0 ≡ every (λ b. ltb b 16) (leftovers l)) size
      (uppers_zero (leftovers l) (leftovers_bytes l eight.1)))

  -- the second: with six more it has none either
  second : every (λ b. ltb b 16) (leftovers l) ≡ true
      → eqb (bit_and (bit_xor w 0x3030_3030_3030_3030 + 0x0606_0606_0606_0606) 0xF0F0_F0F0_F0F0_F0F0) 0 ≡ every is_digit l
  unfolding filled
  second h =
      let sum : unsigned (leftovers l) + 0x0606_0606_0606_0606 ≡ unsigned (map (λ b. b + 6) (leftovers l))
      = subst (λ (n : ℕ). unsigned (leftovers l) + filled 6 n ≡ unsigned (map (λ b. b + 6) (leftovers l))) size (add-each 6 (leftovers l)) in
      rw (word_left, sum)
      (subst (λ (n : ℕ). eqb (bit_and (unsigned (map (λ b. b + 6) (leftovers l))) (filled 240 n)) 0 ≡ every (λ b. ltb b 16) (map (λ b. b + 6) (leftovers l)))
      (length-map (leftovers l) _ ∙ size) (uppers_zero (map (λ b. b + 6) (leftovers l)) (six_bytes (leftovers l) h))
      ∙ six_more (leftovers l) ∙ all_digits l eight.1)

  -- digits pass the first test
  small-digits : every is_digit l ≡ true → every (λ b. ltb b 16) (leftovers l) ≡ true
  small-digits h = every_map (λ b. ltb b 10) (λ b. ltb b 16) (λ b f. lt-ltb b 16 (omega (arith, ltb-true b 10 f))) (leftovers l) (all_digits l eight.1 ∙ h)

  pub first-passed : bit_and (bit_xor w 0x3030_3030_3030_3030) 0xF0F0_F0F0_F0F0_F0F0 ≡ 0 → every (λ b. ltb b 16) (leftovers l) ≡ true
  first-passed z = sym first ∙ eq-eqb _ 0 z

  pub first_failed : (bit_and (bit_xor w 0x3030_3030_3030_3030) 0xF0F0_F0F0_F0F0_F0F0 ≡ 0 → ⊥) → every is_digit l ≡ false
  first_failed n = go (every is_digit l) refl
    where
      go : (x : Bool) → every is_digit l ≡ x → x ≡ false
      go true h = absurd (n (eqb-true _ 0 (first ∙ small-digits h)))
      go false h = refl

  pub second-passed : every (λ b. ltb b 16) (leftovers l) ≡ true
      → bit_and (bit_xor w 0x3030_3030_3030_3030 + 0x0606_0606_0606_0606) 0xF0F0_F0F0_F0F0_F0F0 ≡ 0 → every is_digit l ≡ true
  second-passed h z = sym (second h) ∙ eq-eqb _ 0 z

  pub second_failed : every (λ b. ltb b 16) (leftovers l) ≡ true
      → (bit_and (bit_xor w 0x3030_3030_3030_3030 + 0x0606_0606_0606_0606) 0xF0F0_F0F0_F0F0_F0F0 ≡ 0 → ⊥) → every is_digit l ≡ false
  second_failed h n = sym (second h) ∙ ne_eqb _ 0 n

  -- no sum or product leaves the word
  pub small-most : every (λ b. ltb b 16) (leftovers l) ≡ true → bit_xor w 0x3030_3030_3030_3030 ≤ 0x0F0F_0F0F_0F0F_0F0F
  unfolding filled
  small-most h = rw word_left (subst (λ (n : ℕ). unsigned (leftovers l) ≤ filled 15 n) size (each-most 15 (leftovers l) h))

  pub digits-most : every is_digit l ≡ true → bit_xor w 0x3030_3030_3030_3030 ≤ 0x0909_0909_0909_0909
  unfolding filled
  digits-most h = rw word_left (subst (λ (n : ℕ). unsigned (leftovers l) ≤ filled 9 n) size (each-most 9 (leftovers l) (all_digits l eight.1 ∙ h)))

  -- a pair of digits, where its byte stands
  pub pair_read : every is_digit l ≡ true → (j : ℕ) → suc j < 8
      → (10 * bit_xor w 0x3030_3030_3030_3030 + bit_xor w 0x3030_3030_3030_3030 / 256) / 256 ^ j % 256 ≡ decimal (take 2 (drop j l))
  pair_read h j below =
      let ten = all_digits l eight.1 ∙ h in
      let a = left_at l j eight.1 h (omega (arith, eight.0)) in
      let b = left_at l (suc j) eight.1 h (omega (arith, eight.0)) in
      rw (word_left, pairs_number (leftovers l) (leftovers_bytes l eight.1), lane (pairs (leftovers l)) j (pairs_bytes (leftovers l) ten), pair_at (leftovers l) j (omega (arith, size)), a, b)
      (sym (two_digits l j (omega (arith, eight.0))))

  pub first_pair : every is_digit l ≡ true
      → (10 * bit_xor w 0x3030_3030_3030_3030 + bit_xor w 0x3030_3030_3030_3030 / 256) % 256 ≡ decimal (take 2 l)
  first_pair h = omega (arith, pair_read h 0 (omega arith))

-- any word is that of its eight bytes
bytes_eight : (w : ℕ) → AreEight (low_bytes 8 w)
unfolding low_bytes
bytes_eight w = (refl, low-bytes 8 w)

bytes_word : (w : ℕ) → w < 2 ^ 64 → w ≡ unsigned (low_bytes 8 w)
bytes_word w h = sym (unsigned-low 8 w (omega arith))

-- a word that passes a test leaves room for what is done next
pub room_for_sixes : (w : ℕ) → w < 2 ^ 64 → bit_and (bit_xor w 0x3030_3030_3030_3030) 0xF0F0_F0F0_F0F0_F0F0 ≡ 0
    → bit_xor w 0x3030_3030_3030_3030 ≤ 0x0F0F_0F0F_0F0F_0F0F
room_for_sixes w h z =
    let l = low_bytes 8 w in
    small-most w l (bytes_eight w) (bytes_word w h) (first-passed w l (bytes_eight w) (bytes_word w h) z)

pub room_for_pairs : (w : ℕ) → w < 2 ^ 64 → bit_and (bit_xor w 0x3030_3030_3030_3030) 0xF0F0_F0F0_F0F0_F0F0 ≡ 0
    → bit_and (bit_xor w 0x3030_3030_3030_3030 + 0x0606_0606_0606_0606) 0xF0F0_F0F0_F0F0_F0F0 ≡ 0 → bit_xor w 0x3030_3030_3030_3030 ≤ 0x0909_0909_0909_0909
room_for_pairs w h y z =
    let l = low_bytes 8 w in
    digits-most w l (bytes_eight w) (bytes_word w h)
    (second-passed w l (bytes_eight w) (bytes_word w h) (first-passed w l (bytes_eight w) (bytes_word w h) y) z)
