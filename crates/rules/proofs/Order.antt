-- The order of places. A place has the number up x - down x, and by these numbers `omega places` reads and proves the order as arithmetic.
use Prim.Native.Nat.{ℕ, zero, suc, ◌+◌, ◌*◌, ◌≤◌, ◌<◌}
use mathlib.Core.Path.{◌≡◌, refl, ap}
use mathlib.Core.Bool.{Bool, true, false, not, true≢false, false≢true}
use native.Mathlib.Omega.{arith}
use lib.IntN.{ℤ, pos, negsuc, suc_ℤ, suc-pred, pred-suc}
use lib.Signed.{lt_z, le_z}
use borrow.Author.Tests.{ltb-true, ltb-false, leb-true, leb-false, not-true, not-false}
use Rattle.rules.specs.Sets.{Place, at, gap_after, next_place, previous_place, ◌is_before◌}

-- the test b tells whether m is less than n
abbrev Tells : Bool → ℕ → ℕ → Type 0
Tells b m n = (b ≡ true → m < n) × (b ≡ false → n ≤ m)

ruleset tests = (arith, ltb-true, ltb-false, leb-true, leb-false, true≢false, false≢true)

-- an integer is above t - below t
above : ℤ → ℕ
above (pos n) = n
above (negsuc n) = 0

below : ℤ → ℕ
below (pos n) = 0
below (negsuc n) = suc n

lt_z_tells : (s t : ℤ) → Tells (lt_z s t) (above s + below t) (above t + below s)
unfolding above below
lt_z_tells (pos a) (pos b) = omega tests
lt_z_tells (pos a) (negsuc b) = omega tests
lt_z_tells (negsuc a) (pos b) = omega tests
lt_z_tells (negsuc a) (negsuc b) = omega tests

le_z_tells : (s t : ℤ) → Tells (le_z s t) (above s + below t) (suc (above t + below s))
unfolding above below
le_z_tells (pos a) (pos b) = omega tests
le_z_tells (pos a) (negsuc b) = omega tests
le_z_tells (negsuc a) (pos b) = omega tests
le_z_tells (negsuc a) (negsuc b) = omega tests

suc-number : (t : ℤ) → above (suc_ℤ t) + below t ≡ suc (above t + below (suc_ℤ t))
unfolding above below
suc-number (pos n) = omega arith
suc-number (negsuc zero) = omega arith
suc-number (negsuc (suc n)) = omega arith

pub up : Place → ℕ
up (at t) = 2 * above t
up (gap_after t) = 2 * above t + 1

pub down : Place → ℕ
down (at t) = 2 * below t
down (gap_after t) = 2 * below t

before-tells : (x y : Place) → Tells (x is_before y) (up x + down y) (up y + down x)
unfolding up down
before-tells (at s) (at t) = omega (arith, (lt_z_tells s t).0, (lt_z_tells s t).1)
before-tells (at s) (gap_after t) = omega (arith, (le_z_tells s t).0, (le_z_tells s t).1)
before-tells (gap_after s) (at t) = omega (arith, (lt_z_tells s t).0, (lt_z_tells s t).1)
before-tells (gap_after s) (gap_after t) = omega (arith, (lt_z_tells s t).0, (lt_z_tells s t).1)

pub next-number : (x : Place) → up (next_place x) + down x ≡ suc (up x + down (next_place x))
unfolding up down
next-number (at t) = omega arith
next-number (gap_after t) = omega (arith, suc-number t)

tested : (b : Bool) {m n : ℕ} → Tells b m n → (m < n → b ≡ true) × (n ≤ m → b ≡ false)
tested true t = (λ h. refl, λ h. absurd (omega (arith, t.0 refl)))
tested false t = (λ h. absurd (omega (arith, t.1 refl)), λ h. refl)

-- the rules of `omega places`, for a test that passes, one that fails, and their negations
pub before-less : (x y : Place) → x is_before y ≡ true → up x + down y < up y + down x
before-less x y = (before-tells x y).0

pub after_less : (x y : Place) → x is_before y ≡ false → up y + down x ≤ up x + down y
after_less x y = (before-tells x y).1

pub less-before : (x y : Place) → up x + down y < up y + down x → x is_before y ≡ true
less-before x y = (tested (x is_before y) (before-tells x y)).0

pub less-after : (x y : Place) → up y + down x ≤ up x + down y → x is_before y ≡ false
less-after x y = (tested (x is_before y) (before-tells x y)).1

pub not-less : (x y : Place) → not (x is_before y) ≡ true → up y + down x ≤ up x + down y
not-less x y e = after_less x y (not-true _ e)

pub not-not-less : (x y : Place) → not (x is_before y) ≡ false → up x + down y < up y + down x
not-not-less x y e = before-less x y (not-false _ e)

pub less-not : (x y : Place) → up y + down x ≤ up x + down y → not (x is_before y) ≡ true
less-not x y h = ap not (less-after x y h)

pub less-not-not : (x y : Place) → up x + down y < up y + down x → not (x is_before y) ≡ false
less-not-not x y h = ap not (less-before x y h)

same_integer : (s t : ℤ) → above s + below t ≡ above t + below s → s ≡ t
unfolding above below
same_integer (pos a) (pos b) e = ap pos (omega arith)
same_integer (pos a) (negsuc b) e = absurd (omega arith)
same_integer (negsuc a) (pos b) e = absurd (omega arith)
same_integer (negsuc a) (negsuc b) e = ap negsuc (omega arith)

pub same_place : (x y : Place) → up x + down y ≡ up y + down x → x ≡ y
unfolding up down
same_place (at s) (at t) e = ap at (same_integer s t (omega arith))
same_place (at s) (gap_after t) e = absurd (omega arith)
same_place (gap_after s) (at t) e = absurd (omega arith)
same_place (gap_after s) (gap_after t) e = ap gap_after (same_integer s t (omega arith))

pub ruleset places = (arith, before-less, after_less, less-before, less-after, not-less, not-not-less, less-not, less-not-not, same_place)

pub before_irreflexive : (x : Place) → x is_before x ≡ false
before_irreflexive x = omega places

pub before_transitive : (x y z : Place) → x is_before y ≡ true → y is_before z ≡ true → x is_before z ≡ true
before_transitive x y z h k = omega places

pub before-total : (x y : Place) → x is_before y ≡ false → y is_before x ≡ false → x ≡ y
before-total x y h k = omega places

pub next_previous : (x : Place) → next_place (previous_place x) ≡ x
next_previous (at t) = ap at (suc-pred t)
next_previous (gap_after t) = refl

pub previous_next : (x : Place) → previous_place (next_place x) ≡ x
previous_next (at t) = refl
previous_next (gap_after t) = ap gap_after (pred-suc t)

pub before-next_self : (x : Place) → x is_before next_place x ≡ true
before-next_self x = omega (places, next-number x)

pub before-next : (x y : Place) → x is_before next_place y ≡ not (y is_before x)
before-next x y = go (y is_before x) refl
  where
    go : (b : Bool) → y is_before x ≡ b → x is_before next_place y ≡ not b
    go true e = omega (places, next-number y)
    go false e = omega (places, next-number y)

pub previous_number : (x : Place) → up x + down (previous_place x) ≡ suc (up (previous_place x) + down x)
previous_number x = rw next_previous at (next-number (previous_place x))
