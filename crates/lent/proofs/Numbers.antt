-- A number in eight bytes; and numbers as signed ones: their order, and what kinds and ticks say.
use Rattle.std.proofs.Common.{◌≡◌, ℕ, suc, ◌+◌, ◌-◌, ◌%◌, ◌^◌, ◌<◌, ◌≤◌, Bool, true, false, cond, not, ◌||◌, eqb, ltb, List, length, take, drop, pos, negsuc, sym, refl, ◌∙◌, arith, drop-cons, ltb-false, ltb-true, le-ltb, lt-ltb, eq-eqb, ne_eqb}
use lib.Signed.{lt_z, le_z}
use Rattle.std.specs.Int.{w64, from_le_bytes}
use Rattle.rules.specs.Sets.{at as at_tick}
use Rattle.rules.specs.LentLists.{is_kind, is_zero, unsigned, signed}
use Rattle.rules.proofs.Order.{before-next}

-- eight bytes are the number that they say, lowest first
pub number-read : (list : List ℕ) (at : ℕ) → at + 8 ≤ length list → from_le_bytes w64 (take 8 (drop at list)) ≡ unsigned (take 8 (drop at list))
unfolding unsigned
number-read list at h =
    rw (
      drop-cons list at 0 (omega arith),
      drop-cons list (suc at) 0 (omega arith),
      drop-cons list (suc (suc at)) 0 (omega arith),
      drop-cons list (suc (suc (suc at))) 0 (omega arith),
      drop-cons list (suc (suc (suc (suc at)))) 0 (omega arith),
      drop-cons list (suc (suc (suc (suc (suc at))))) 0 (omega arith),
      drop-cons list (suc (suc (suc (suc (suc (suc at)))))) 0 (omega arith),
      drop-cons list (suc (suc (suc (suc (suc (suc (suc at))))))) 0 (omega arith),
    ) (omega arith)

-- two tests of order that come out alike
same_test : (m n a b : ℕ) → (m < n → a < b) → (n ≤ m → b ≤ a) → ltb m n ≡ ltb a b
same_test m n a b f g = go (ltb m n) refl
  where
    go : (x : Bool) → ltb m n ≡ x → x ≡ ltb a b
    go true e = sym (lt-ltb a b (f (ltb-true m n e)))
    go false e = sym (le-ltb a b (g (ltb-false m n e)))

-- the number that has the place of a signed one among all from 0 on
abbrev shifted : ℕ → ℕ
shifted a = (a + 2 ^ 63) % 2 ^ 64

-- the order of signed numbers is that of the shifted ones
pub signed-order : (a b : ℕ) → a < 2 ^ 64 → b < 2 ^ 64 → ltb (shifted a) (shifted b) ≡ lt_z (signed a) (signed b)
signed-order a b h k = go (ltb a (2 ^ 63)) refl (ltb b (2 ^ 63)) refl
  where
    go : (x : Bool) → ltb a (2 ^ 63) ≡ x → (y : Bool) → ltb b (2 ^ 63) ≡ y
        → ltb (shifted a) (shifted b) ≡ lt_z (cond x (pos a) (negsuc (2 ^ 64 - suc a))) (cond y (pos b) (negsuc (2 ^ 64 - suc b)))
    go true e true f = same_test (shifted a) (shifted b) a b (omega (arith, ltb-true, ltb-false)) (omega (arith, ltb-true, ltb-false))
    go true e false f = le-ltb (shifted a) (shifted b) (omega (arith, ltb-true, ltb-false))
    go false e true f = lt-ltb (shifted a) (shifted b) (omega (arith, ltb-true, ltb-false))
    go false e false f = same_test (shifted a) (shifted b) (2 ^ 64 - suc b) (2 ^ 64 - suc a) (omega (arith, ltb-true, ltb-false)) (omega (arith, ltb-true, ltb-false))

-- at most is less or the same
pub signed-most : (a b : ℕ) → a < 2 ^ 64 → b < 2 ^ 64 → le_z (signed a) (signed b) ≡ lt_z (signed a) (signed b) || eqb a b
signed-most a b h k = before-next (at_tick (signed a)) (at_tick (signed b)) ∙ rw (← signed-order b a k h, ← signed-order a b h k) (go (ltb (shifted b) (shifted a)) refl)
  where
    go : (x : Bool) → ltb (shifted b) (shifted a) ≡ x → not x ≡ ltb (shifted a) (shifted b) || eqb a b
    go true e = rw (le-ltb (shifted a) (shifted b) (omega (arith, ltb-true)), ne_eqb a b (omega (arith, ltb-true)))
    go false e = least (ltb (shifted a) (shifted b)) refl
      where
        least : (y : Bool) → ltb (shifted a) (shifted b) ≡ y → true ≡ y || eqb a b
        least true f = refl
        least false f = sym (eq-eqb a b (omega (arith, ltb-false)))

-- what kinds and ticks say as signed numbers they say as they stand
pub kind-signed : (k : ℕ) → is_kind (signed k) ≡ ltb k 3
kind-signed k = go (ltb k (2 ^ 63)) refl
  where
    go : (x : Bool) → ltb k (2 ^ 63) ≡ x → is_kind (cond x (pos k) (negsuc (2 ^ 64 - suc k))) ≡ ltb k 3
    go true e = refl
    go false e = sym (le-ltb k 3 (omega (arith, ltb-false k (2 ^ 63) e)))

pub zero-signed : (k : ℕ) → is_zero (signed k) ≡ eqb k 0
zero-signed k = go (ltb k (2 ^ 63)) refl
  where
    go : (x : Bool) → ltb k (2 ^ 63) ≡ x → is_zero (cond x (pos k) (negsuc (2 ^ 64 - suc k))) ≡ eqb k 0
    go true e = refl
    go false e = sym (ne_eqb k 0 (omega (arith, ltb-false k (2 ^ 63) e)))
