-- The order of ticks is that of their counts, and so bounds are crossed by counts (request A4).
use Prim.Native.Nat.{ℕ, zero, suc, ◌+◌, ◌*◌, ◌≤◌, ◌<◌}
use mathlib.Core.Path.{◌≡◌, refl, sym, ap, ◌∙◌}
use mathlib.Core.Bool.{Bool, true, false, cond}
use native.Mathlib.Decide.{dec_le}
use native.Mathlib.Omega.{arith}
use borrow.Author.Tests.{lt-ltb, le-ltb, le-leb, lt-leb}
use lib.Dec.{leb, ltb}
use lib.IntN.{ℤ, pos, negsuc, suc_ℤ, pred_ℤ, suc_ℤ-+ℤ}
use lib.Signed.{lt_z}
use Rattle.rules.specs.Timestamp.{Moment, before_start, tick_at, tick_of}
use Rattle.rules.specs.Invariants.{high, is_pushed, valued, is_crossed}
use Rattle.rules.specs.Sets.{Place, at, gap_after, ◌is_before◌, previous_place}
use Rattle.rules.proofs.Order.{places, up, down, next-number, previous_number}

-- the tick of a count from tick 0 on
pub tick-from-start : (n : ℕ) → tick_at (n + before_start) ≡ pos n
unfolding tick_at
tick-from-start n = rw (le-ltb (n + before_start) before_start (omega arith)) (ap pos (omega arith))

pub tick-next : (n : ℕ) → tick_at (suc n) ≡ suc_ℤ (tick_at n)
unfolding tick_at
tick-next n = suc_ℤ-+ℤ (pos n) (negsuc 503999999)

-- the place of the tick that is counted as 0
unfoldable pub origin : Place
origin = at (tick_at 0)

pub ticks_apart : (n : ℕ) → up (at (tick_at n)) + down origin ≡ 2 * n + (down (at (tick_at n)) + up origin)
unfolding origin
ticks_apart zero = omega arith
ticks_apart (suc n) = rw (tick-next n) (omega (arith, ticks_apart n, next-number (at (tick_at n)), next-number (gap_after (tick_at n))))

pub tick-one : (m n : ℕ) → tick_at m ≡ tick_at n → m ≡ n
tick-one m n e = omega (arith, ticks_apart m, ticks_apart n, ap (λ (t : ℤ). up (at t)) e, ap (λ (t : ℤ). down (at t)) e)

pub tick-less : (m n : ℕ) → lt_z (tick_at m) (tick_at n) ≡ ltb m n
tick-less m n = elim (dec_le (suc m) n) [
  | yes h ↦ first h ∙ sym (lt-ltb m n h)
  | no h ↦ second (omega arith) ∙ sym (le-ltb m n (omega arith))
]
  where
    first : m < n → at (tick_at m) is_before at (tick_at n) ≡ true
    first h = omega (places, ticks_apart m, ticks_apart n)

    second : n < suc m → at (tick_at m) is_before at (tick_at n) ≡ false
    second h = omega (places, ticks_apart m, ticks_apart n)

pub pred_less : (m n : ℕ) → lt_z (pred_ℤ (tick_at m)) (tick_at n) ≡ leb m n
pred_less m n = elim (dec_le m n) [
  | yes h ↦ first (omega arith) ∙ sym (le-leb m n h)
  | no h ↦ second (omega arith) ∙ sym (lt-leb m n (omega arith))
]
  where
    first : m < suc n → previous_place (at (tick_at m)) is_before at (tick_at n) ≡ true
    first h = omega (places, ticks_apart m, ticks_apart n, previous_number (at (tick_at m)))

    second : n < m → previous_place (at (tick_at m)) is_before at (tick_at n) ≡ false
    second h = omega (places, ticks_apart m, ticks_apart n, previous_number (at (tick_at m)))

-- bounds are crossed where low is at the next unit's start or after it, or, of a high that is not pushed, after its start
pub crossed : (closed : Bool) (l h : Moment)
    → is_crossed closed (valued l) (valued h) ≡ cond (is_pushed high closed h) (leb h.next l.start) (ltb h.start l.start)
crossed closed l h =
    elim (is_pushed high closed h) as (λ b. lt_z (cond b (pred_ℤ (tick_at h.next)) (tick_of h)) (tick_of l) ≡ cond b (leb h.next l.start) (ltb h.start l.start))
    [ false ↦ tick-less h.start l.start | true ↦ pred_less h.next l.start ]

-- whatever high's flag is, a low that is not after its start, and before the next unit's, is not
pub uncrossed : (closed : Bool) (l h : Moment) → l.start ≤ h.start → l.start < h.next → is_crossed closed (valued l) (valued h) ≡ false
uncrossed closed l h a b =
    crossed closed l h ∙ rw (le-ltb h.start l.start a, lt-leb h.next l.start b)
    (elim (is_pushed high closed h) as (λ p. cond p false false ≡ false) [ false ↦ refl | true ↦ refl ])
