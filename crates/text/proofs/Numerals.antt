-- Digits at a position, as many as there are or a given count of them, and the number that they write.
use Prim.Native.Nat.{ℕ, zero, suc, ◌+◌, ◌-◌, ◌*◌, ◌^◌, ◌≤◌, ◌<◌}
use mathlib.Core.Path.{◌≡◌, refl, sym, subst}
use mathlib.Core.Bool.{Bool, true, false, cond}
use mathlib.Core.List.{List, [], ◌∷◌}
use native.Mathlib.Nat.{pow-le-pow_right, lt_of_lt_of_le}
use native.Mathlib.Numerals.{add-one}
use native.Mathlib.Omega.{arith}
use mathlib.Core.Logic.{inl, inr}
use lib.Dec.{eqb}
use borrow.Author.Tests.{eq-eqb, ne_eqb}
use lib.ListN.{length, get_or, take, drop, length-drop, drop_of_length-le}
use lib.Seq.{drop-cons, drop-drop, take-suc, get_or-drop, length-take-le}
use Rattle.rules.specs.Basics.{every, is_digit, decimal_from, decimal}
use Rattle.rules.specs.Parsers.{bad, ok, next, pure, ◌>>=◌, ◌or◌, one, byte, times, up_to}
use Rattle.rules.specs.Timestamp.{digits, point}
use Rattle.rules.proofs.Tests.{clash, is_from-true, every_true}
use Rattle.rules.proofs.Parsers.{else-ok}
use Rattle.rules.proofs.Digits.{decimal_from-append, decimal-below}
use Rattle.text.specs.Numbers.{Counted, NumberAt, FractionAt}
use Rattle.std.specs.Prelude.{Some}

-- no byte that passes the test stands at the end, nor at a byte that does not
pub none-at-end : (p : ℕ → Bool) (s : List ℕ) (i : ℕ) → length s ≤ i → one p (drop i s) ≡ bad
unfolding one
none-at-end p s i h = rw (drop_of_length-le s h) refl

pub none-at : (p : ℕ → Bool) (s : List ℕ) (i : ℕ) → i < length s → p (get_or s i 0) ≡ false → one p (drop i s) ≡ bad
unfolding one
none-at p s i h e = rw (drop-cons s i 0 h, e) refl

-- a run of bytes that pass a test, up to one that does not
up_to_run : (p : ℕ → Bool) (k n : ℕ) (s : List ℕ) → n ≤ k → n ≤ length s → every p (take n s) ≡ true → (n < k → one p (drop n s) ≡ bad)
    → up_to k p s ≡ ok (take n s) (drop n s)
unfolding up_to one every
up_to_run p zero zero s l h e stop = refl
up_to_run p (suc k) zero s l h e stop = rw (stop (omega arith)) refl
up_to_run p zero (suc n) s l h e stop = absurd (omega arith)
up_to_run p (suc k) (suc n) [] l h e stop = absurd (omega arith)
up_to_run p (suc k) (suc n) (c ∷ s) l h e stop =
    rw ((every_true p c (take n s) e).0, up_to_run p k n s (omega arith) (omega arith) (every_true p c (take n s) e).1 (λ z. stop (omega arith))) refl

times_run : (p : ℕ → Bool) (n : ℕ) (s : List ℕ) → n ≤ length s → every p (take n s) ≡ true → times n p s ≡ ok (take n s) (drop n s)
unfolding times one every
times_run p zero s h e = refl
times_run p (suc n) [] h e = absurd (omega arith)
times_run p (suc n) (c ∷ s) h e = rw ((every_true p c (take n s) e).0, times_run p n s (omega arith) (every_true p c (take n s) e).1) refl

times-stop : (p : ℕ → Bool) (k n : ℕ) (s : List ℕ) → n < k → n ≤ length s → every p (take n s) ≡ true → one p (drop n s) ≡ bad → times k p s ≡ bad
unfolding times one every
times-stop p zero n s l h e stop = absurd (omega arith)
times-stop p (suc k) zero s l h e stop = rw stop refl
times-stop p (suc k) (suc n) [] l h e stop = absurd (omega arith)
times-stop p (suc k) (suc n) (c ∷ s) l h e stop =
    rw ((every_true p c (take n s) e).0, times-stop p k n s (omega arith) (omega arith) (every_true p c (take n s) e).1 stop) refl

-- a text that is too short
times-short : (p : ℕ → Bool) (n : ℕ) (s : List ℕ) → length s < n → times n p s ≡ bad
unfolding times one
times-short p zero s h = absurd (omega arith)
times-short p (suc n) [] h = refl
times-short p (suc n) (c ∷ s) h = go (p c) (times-short p n s (omega arith))
  where
    go : (b : Bool) → times n p s ≡ bad → next (cond b (ok c s) bad) (λ a. times n p >>= (λ cs. pure (a ∷ cs))) ≡ bad
    go true e = rw e refl
    go false e = refl

pub digits-short : (s : List ℕ) (at n : ℕ) → length s < at + n → 0 < n → digits n (drop at s) ≡ bad
unfolding digits
digits-short s at n h k = rw (times-short is_digit n (drop at s) (rw length-drop (omega arith))) refl

module _ (s : List ℕ) (at most n : ℕ) (c : Counted s at most n) where
  fits : n ≤ length (drop at s)
  fits = rw length-drop (omega (arith, c.high))

  stops : n < most → one is_digit (drop n (drop at s)) ≡ bad
  stops l = rw (drop-drop n at s) (c.stop l)

  pub no_digit_counted : n ≡ 0 → 0 < most → one is_digit (drop at s) ≡ bad
  no_digit_counted e h = rw e at stops (omega arith)

  -- as many digits as there are, up to `most`
  pub counted-up_to : up_to most is_digit (drop at s) ≡ ok (take n (drop at s)) (drop (at + n) s)
  counted-up_to = rw (← drop-drop n at s) (up_to_run is_digit most n (drop at s) c.few fits c.digits stops)

  -- fewer digits than are wanted
  pub counted-bad : n < most → digits most (drop at s) ≡ bad
  unfolding digits
  counted-bad l = rw (times-stop is_digit most n (drop at s) l fits c.digits (stops l)) refl

  -- all that are wanted
  pub counted-all : most ≤ n → (at + most ≤ length s) × (every is_digit (take most (drop at s)) ≡ true)
  counted-all l = let e : n ≡ most = omega (arith, c.few) in (rw (← e) c.high, rw (← e) c.digits)

  pub counted-number : most ≤ n → digits most (drop at s) ≡ ok (decimal (take most (drop at s))) (drop (at + most) s)
  unfolding digits
  counted-number l =
      let k = counted-all l in
      rw (times_run is_digit most (drop at s) (rw length-drop (omega (arith, k.0))) k.1, drop-drop most at s) refl

-- one digit more
pub decimal_more : (s : List ℕ) (at k : ℕ) → at + k < length s
    → decimal (take (k + 1) (drop at s)) ≡ decimal (take k (drop at s)) * 10 + (get_or s (at + k) 0 - 48)
unfolding decimal_from
decimal_more s at k h =
    rw (add-one k, take-suc (drop at s) k 0 (rw length-drop (omega arith)), get_or-drop at s k 0, decimal_from-append 0 (take k (drop at s)) (get_or s (at + k) 0 ∷ []))
    (omega arith)

-- of n digits the first k, and the one after them
every_fewer : (p : ℕ → Bool) (l : List ℕ) (n k : ℕ) → k ≤ n → every p (take n l) ≡ true → every p (take k l) ≡ true
unfolding every
every_fewer p l n zero h e = refl
every_fewer p l zero (suc k) h e = absurd (omega arith)
every_fewer p [] (suc n) (suc k) h e = refl
every_fewer p (c ∷ l) (suc n) (suc k) h e =
    rw (every_true p c (take n l) e).0 (every_fewer p l n k (omega arith) (every_true p c (take n l) e).1)

every-at : (p : ℕ → Bool) (l : List ℕ) (n k : ℕ) → k < n → k < length l → every p (take n l) ≡ true → p (get_or l k 0) ≡ true
unfolding every
every-at p l zero k h g e = absurd (omega arith)
every-at p [] (suc n) k h g e = absurd (omega arith)
every-at p (c ∷ l) (suc n) zero h g e = (every_true p c (take n l) e).0
every-at p (c ∷ l) (suc n) (suc k) h g e = every-at p l n k (omega arith) (omega arith) (every_true p c (take n l) e).1

module _ (s : List ℕ) (at n : ℕ) (high : at + n ≤ length s) (e : every is_digit (take n (drop at s)) ≡ true) where
  pub digit_at : (k : ℕ) → k < n → (48 ≤ get_or s (at + k) 0) × (get_or s (at + k) 0 ≤ 57)
  digit_at k h = is_from-true 48 57 (get_or s (at + k) 0) (rw (← get_or-drop at s k 0) (every-at is_digit (drop at s) n k h (rw length-drop (omega arith)) e))

  -- the first k digits write less than one and k zeros
  pub decimal-first : (k : ℕ) → k ≤ n → decimal (take k (drop at s)) < 10 ^ k
  decimal-first k h =
      subst (λ (m : ℕ). decimal (take k (drop at s)) < 10 ^ m) (length-take-le k (drop at s) (rw length-drop (omega arith)))
      (decimal-below (take k (drop at s)) (every_fewer is_digit (drop at s) n k h e))

  -- eighteen digits fit
  pub decimal-fits : (k : ℕ) → k < n → n ≤ 18 → decimal (take k (drop at s)) < 10 ^ 17
  decimal-fits k h l = lt_of_lt_of_le (decimal-first k (omega arith)) (pow-le-pow_right {n = 10} (omega arith) {i = k} {j = 17} (omega arith))

-- the number of the digits that were passed, where a text has room for n: all of them, or a byte that is none after them
module _ (s : List ℕ) (at n k : ℕ) (room : at + n ≤ length s) (few : k ≤ n) (e : every is_digit (take k (drop at s)) ≡ true) where
  pub passed-fits : k < n → n ≤ 18 → decimal (take k (drop at s)) < 10 ^ 17
  passed-fits h l =
      lt_of_lt_of_le (decimal-first s at k (omega arith) e k (omega arith)) (pow-le-pow_right {n = 10} (omega arith) {i = k} {j = 17} (omega arith))

  pub other_byte : k < n → is_digit (get_or s (at + k) 0) ≡ false → digits n (drop at s) ≡ bad
  other_byte h f =
      counted-bad s at n k (record { few = few; high = omega arith; digits = e; stop = λ l. none-at is_digit s (at + k) (omega arith) f }) h

  pub all-passed : n ≤ k → NumberAt s at n (Some (decimal (take k (drop at s))))
  all-passed h =
      let z : k ≡ n = omega arith in
      let c : Counted s at n k = record { few = few; high = omega arith; digits = e; stop = λ l. absurd (omega arith) } in (
        room,
        subst (λ (m : ℕ). decimal (take k (drop at s)) < 10 ^ m) z (decimal-first s at k (omega arith) e k (omega arith)),
        subst (λ (m : ℕ). digits n (drop at s) ≡ ok (decimal (take m (drop at s))) (drop (at + n) s)) (sym z) (counted-number s at n k c h),
      )

-- a byte at a position
pub byte_at : (b : ℕ) (s : List ℕ) (i : ℕ) → i < length s → get_or s i 0 ≡ b → byte b (drop i s) ≡ ok b (drop (i + 1) s)
unfolding one
byte_at b s i h e = rw (drop-cons s i 0 h, e, eq-eqb b b refl, add-one i) refl

pub no_byte : (b : ℕ) (s : List ℕ) (i : ℕ) → i < length s → (get_or s i 0 ≡ b → ⊥) → byte b (drop i s) ≡ bad
no_byte b s i h e = none-at (λ c. eqb c b) s i h (ne_eqb (get_or s i 0) b e)

-- no point, or no digit after it: nothing is read
pub no_point : (s : List ℕ) (at : ℕ) → byte 46 (drop at s) ≡ bad → (point or pure []) (drop at s) ≡ ok [] (drop at s)
unfolding point
no_point s at e = rw e refl

pub no_digit : (s : List ℕ) (at : ℕ) → byte 46 (drop at s) ≡ ok 46 (drop (at + 1) s) → one is_digit (drop (at + 1) s) ≡ bad
    → (point or pure []) (drop at s) ≡ ok [] (drop at s)
unfolding point
no_digit s at e f = rw (e, f) refl

-- a point and its digits
first_of : (n : ℕ) (p : ℕ → Bool) (s : List ℕ) (d : ℕ) (ds r : List ℕ) → up_to (suc n) p s ≡ ok (d ∷ ds) r
    → next (one p s) (λ c. up_to n p >>= (λ cs. pure (c ∷ cs))) ≡ ok (d ∷ ds) r
unfolding up_to
first_of n p s d ds r e = elim (else-ok (next (one p s) (λ c. up_to n p >>= (λ cs. pure (c ∷ cs)))) (ok [] s) e) [
  | inl f ↦ f
  | inr f ↦ clash (cc)
]

point_run : (s u r : List ℕ) (n : ℕ) → byte 46 s ≡ ok 46 u → 1 ≤ n → 1 ≤ length u → up_to 4 is_digit u ≡ ok (take n u) r → (point or pure []) s ≡ ok (take n u) r
unfolding point
point_run s u r zero e h l f = absurd (omega arith)
point_run s [] r (suc n) e h l f = absurd (omega arith)
point_run s (c ∷ u) r (suc n) e h l f = rw (e, first_of 3 is_digit (c ∷ u) c (take n u) r f) refl

pub point-digits : (s : List ℕ) (at n : ℕ) → byte 46 (drop at s) ≡ ok 46 (drop (at + 1) s) → Counted s (at + 1) 4 n → 1 ≤ n
    → (point or pure []) (drop at s) ≡ ok (take n (drop (at + 1) s)) (drop (at + 1 + n) s)
point-digits s at n e c h =
    point_run (drop at s) (drop (at + 1) s) _ n e h (rw length-drop (omega (arith, c.high))) (counted-up_to s (at + 1) 4 n c)

-- so many digits after a point, in ten-thousandths
pub scaled : (value count k : ℕ) → count ≡ k → k ≤ 4 → value < 10 ^ count → (value * 10 ^ (4 - k) ≡ value * 10 ^ (4 - count)) × (value * 10 ^ (4 - k) < 10_000)
scaled value count k e h l = (rw e refl, below k (subst (λ (n : ℕ). value < 10 ^ n) e l) h)
  where
    below : (k : ℕ) → value < 10 ^ k → k ≤ 4 → value * 10 ^ (4 - k) < 10_000
    below zero l h = omega arith
    below (suc zero) l h = omega arith
    below (suc (suc zero)) l h = omega arith
    below (suc (suc (suc zero))) l h = omega arith
    below (suc (suc (suc (suc zero)))) l h = omega arith
    below (suc (suc (suc (suc (suc k))))) l h = absurd (omega arith)

pub fraction-none : (s : List ℕ) (at : ℕ) → at ≤ length s → (point or pure []) (drop at s) ≡ ok [] (drop at s)
    → FractionAt s at (record { value = 0; count = 0; end = at })
unfolding decimal_from
fraction-none s at h e = record { list = []; reads = e; value = refl; count = refl; few = omega arith; small = omega arith; high = h }

pub fraction_digits : (s : List ℕ) (at n v : ℕ) → byte 46 (drop at s) ≡ ok 46 (drop (at + 1) s) → Counted s (at + 1) 4 n → 1 ≤ n
    → v ≡ decimal (take n (drop (at + 1) s)) * 10 ^ (4 - n) → v < 10_000 → FractionAt s at (record { value = v; count = n; end = at + 1 + n })
fraction_digits s at n v e c h q l =
    let k : length (take n (drop (at + 1) s)) ≡ n = length-take-le n (drop (at + 1) s) (fits s (at + 1) 4 n c) in
    record { list = take n (drop (at + 1) s); reads = point-digits s at n e c h; value = rw k q; count = sym k; few = c.few; small = l; high = c.high }
