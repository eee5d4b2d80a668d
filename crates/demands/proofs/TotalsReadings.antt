-- What a record says to a day's totals: its refusal, null, or its amount, in ten-thousandths, of its currency.
use Prim.Native.Nat.{ℕ, ◌+◌, ◌-◌, ◌*◌, ◌^◌, ◌≤◌, ◌<◌}
use mathlib.Core.Path.{◌≡◌, refl, sym, ◌∙◌, ap, subst}
use mathlib.Core.Logic.{◌⊎◌, inl, inr}
use mathlib.Core.Bool.{Bool, true, false, not}
use mathlib.Core.List.{List, [], ◌∷◌, ◌++◌, append-nil}
use mathlib.Core.Option.{Option, none, some}
use native.Mathlib.Nat.{add-mul, mul_assoc, one-le-pow, pow-le-pow_right}
use native.Mathlib.Omega.{arith}
use borrow.Author.Tests.{ne_eqb}
use lib.Dec.{eqb}
use lib.ListN.{length}
use lib.IntN.{ℤ, pos, neg_ℤ}
use lib.Pow.{pow-add}
use Rattle.rules.specs.Basics.{if_some, every, bytes, is_digit, decimal_from, decimal}
use Rattle.rules.specs.Refusal.{Refusal, TYPE, earlier, first_of, Outcome, answered, refused, faults_in, ◌when◌, ◌unless◌, ◌and_then◌}
use Rattle.rules.specs.Parsers.{ok, next, else, pure, one, up_to, byte, finish, whole}
use Rattle.rules.specs.Timestamp.{point, ten_thousandths}
use Rattle.rules.specs.Markup.{Attribute, Element, lookup}
use Rattle.rules.specs.Forms.{amount_text}
use Rattle.rules.specs.Types.{MO, has_type}
use Rattle.rules.specs.Check.{element_of, check}
use Rattle.rules.specs.Totals.{is_in_range, money, entry_of, not_money, reading}
use Rattle.rules.specs.TotalDays.{Call, reading_of}
use Rattle.rules.proofs.Tests.{clash, every_true, is_from-true}
use Rattle.rules.proofs.Precedence.{check-answered}
use Rattle.rules.proofs.Beginnings.{up_to-read}
use Rattle.rules.proofs.Parsers.{next-ok, map-ok, else-ok, one_ok, up_to-ok, whole-ok}
use Rattle.rules.proofs.Digits.{decimal-append, decimal-below}
use Rattle.rules.proofs.Ticks.{point-ok, fraction_in_second}
use Rattle.rules.proofs.TotalReading.{is-null, is-money, entry_cases}
use Rattle.demands.specs.Totals.{Reads, AreDigits, pointed, sign_written, of_sign}
use Rattle.demands.proofs.TotalsNumbers.{range_of}

-- the text of an amount
written : (attrs : List Attribute) {z : ℤ} (o : Option (List ℕ)) → lookup (bytes "value") attrs ≡ o → if_some o (whole amount_text) none ≡ some z
    → (text : List ℕ) × (lookup (bytes "value") attrs ≡ some text) × (whole amount_text text ≡ some z)
written attrs none l a = clash (cc)
written attrs (some text) l a = (text, l, a)

pub reads : (k : Call) → Reads k (reading_of k)
unfolding reading first_of
reads k = go (check k.offset k.record') refl
  where
    by_first : (r : Refusal) → check k.offset k.record' ≡ refused r → (o : Option Refusal) → first_of (faults_in not_money (element_of k.record')) ≡ o
        → Reads k (refused r unless faults_in not_money (element_of k.record'))
    by_first r c none f = rw f (Reads.faulty c (ap (earlier (some r)) f))
    by_first r c (some q) f = rw f (Reads.faulty c (ap (earlier (some r)) f))

    by_type : (e : Element) → check k.offset k.record' ≡ answered e → (b : Bool) → has_type e.attrs MO ≡ b
        → Reads k (answered (entry_of e.attrs) unless TYPE when not b)
    by_type e c false t = Reads.other_type c t
    by_type e c true t = elim (entry_cases k.offset k.record' e c t) [
      | is-null n m ↦ rw m (Reads.a_null c t n)
      | is-money d z n l f a m ↦ let (text, v, w) = written e.attrs _ refl a in rw m (Reads.an_amount c t n l v w)
    ]

    go : (o : Outcome Element) → check k.offset k.record' ≡ o
        → Reads k ((o and_then λ e. answered (entry_of e.attrs)) unless faults_in not_money (element_of k.record'))
    go (refused r) c = by_first r c _ refl
    go (answered e) c = rw ((check-answered k.offset k.record' e).0 c).0 (by_type e c _ refl)

-- the digits of a fraction count on those before the point
scaled : (ds fs : List ℕ) → length fs ≤ 4 → decimal ds * 10_000 + decimal fs * 10 ^ (4 - length fs) ≡ decimal (ds ++ fs) * 10 ^ (4 - length fs)
scaled ds fs l =
    let p = 10 ^ (4 - length fs) in
    let e : length fs + (4 - length fs) ≡ 4 = omega arith in
    let f : 10 ^ length fs * p ≡ 10_000 = sym (pow-add 10 (length fs) (4 - length fs)) ∙ ap (λ n. 10 ^ n) e in
    rw (decimal-append ds fs, add-mul (decimal ds * 10 ^ length fs) (decimal fs) p, mul_assoc (decimal ds) (10 ^ length fs) p, f)

-- an amount is read as it is written
pub amount-read : (negative : Bool) (ds fs : List ℕ) → AreDigits 1 12 ds → AreDigits 0 4 fs
    → whole amount_text (sign_written negative ++ ds ++ pointed fs) ≡ some (of_sign negative (decimal (ds ++ fs) * 10 ^ (4 - length fs)))
unfolding amount_text point one finish
amount-read negative [] fs h k = clash (omega (arith, h.enough))
amount-read negative (d ∷ ds) fs h k = go negative fs k
  where
    first : (is_digit d ≡ true) × (every is_digit ds ≡ true)
    first = every_true is_digit d ds h.digits

    no_sign : eqb d 45 ≡ false
    no_sign = ne_eqb d 45 (λ e. omega (arith, is_from-true 48 57 d first.0))

    go : (negative : Bool) (fs : List ℕ) → AreDigits 0 4 fs
        → whole amount_text (sign_written negative ++ d ∷ ds ++ pointed fs) ≡ some (of_sign negative (decimal (d ∷ ds ++ fs) * 10 ^ (4 - length fs)))
    go true [] k =
        rw (first.0, up_to-read 11 is_digit ds [] (omega (arith, h.few)) first.1 refl) (ap (λ n. some (neg_ℤ (pos n))) (scaled (d ∷ ds) [] (omega arith)))
    go false [] k =
        rw (no_sign, first.0, up_to-read 11 is_digit ds [] (omega (arith, h.few)) first.1 refl) (ap (λ n. some (pos n)) (scaled (d ∷ ds) [] (omega arith)))
    go true (f ∷ fs) k =
        let (i, j) = every_true is_digit f fs k.digits in
        rw (first.0, up_to-read 11 is_digit ds (46 ∷ f ∷ fs) (omega (arith, h.few)) first.1 refl, i, rw append-nil at (up_to-read 3 is_digit fs [] (omega (arith, k.few)) j refl))
        (ap (λ n. some (neg_ℤ (pos n))) (scaled (d ∷ ds) (f ∷ fs) k.few))
    go false (f ∷ fs) k =
        let (i, j) = every_true is_digit f fs k.digits in
        rw (no_sign, first.0, up_to-read 11 is_digit ds (46 ∷ f ∷ fs) (omega (arith, h.few)) first.1 refl, i, rw append-nil at (up_to-read 3 is_digit fs [] (omega (arith, k.few)) j refl))
        (ap (λ n. some (pos n)) (scaled (d ∷ ds) (f ∷ fs) k.few))

-- an amount that is read is of at most 16 digits, and so within the range
fraction-small : (s : List ℕ) {fs r : List ℕ} → else (point s) (ok [] s) ≡ ok fs r → ten_thousandths fs < 10_000
unfolding point every decimal_from
fraction-small s {fs} e = elim (else-ok (point s) (ok [] s) e) [
  | inl f ↦ let (few, all) = point-ok s f in omega (arith, fraction_in_second fs few all, one-le-pow (4 - length fs) 10 (omega arith))
  | inr f ↦ let z : fs ≡ [] = cc in rw z (omega arith)
]

amount-small : (text : List ℕ) {z : ℤ} → whole amount_text text ≡ some z → is_in_range z ≡ true
unfolding amount_text every
amount-small text {z} e =
    next-ok (else (next (byte 45 text) (λ b. pure neg_ℤ)) (ok (λ z. z) text)) _ (whole-ok amount_text text e) λ sign s f e₁.
    next-ok (one is_digit s) _ e₁ λ d t g e₂.
    next-ok (up_to 11 is_digit t) _ e₂ λ ds u h e₃.
    let (fs, i, y) = map-ok (else (point u) (ok [] u)) (λ fs. sign (pos (decimal (d ∷ ds) * 10_000 + ten_thousandths fs))) e₃ in
    let (few, all) = up_to-ok 11 is_digit t h in
    let l = decimal-below (d ∷ ds) (rw (one_ok is_digit s g).1 all) in
    let m = pow-le-pow_right {n = 10} (omega arith) {i = length (d ∷ ds)} {j = 12} (omega arith) in
    let n = decimal (d ∷ ds) * 10_000 + ten_thousandths fs in
    let small : n ≤ 9_000_000_000_000_000_000 = omega (arith, fraction-small u i) in
    rw (← y) (go sign n small (else-ok (next (byte 45 text) (λ b. pure neg_ℤ)) (ok (λ z. z) text) f))
  where
    go : (sign : ℤ → ℤ) (n : ℕ) → n ≤ 9_000_000_000_000_000_000 → {s : List ℕ}
        → (next (byte 45 text) (λ b. pure neg_ℤ) ≡ ok sign s) ⊎ (ok (λ z. z) text ≡ ok sign s) → is_in_range (sign (pos n)) ≡ true
    go sign n l (inl f) = let (b, g, y) = map-ok (byte 45 text) (λ b. neg_ℤ) f in rw (← y) ((range_of true n).1 l)
    go sign n l (inr f) = let y : (λ z. z) ≡ sign = cc in rw (← y) ((range_of false n).1 l)

pub reading_small : (k : Call) {c : List ℕ} {z : ℤ} → reading_of k ≡ answered (money c z) → is_in_range z ≡ true
reading_small k {c} {z} e = go (subst (Reads k) e (reads k))
  where
    go : Reads k (answered (money c z)) → is_in_range z ≡ true
    go (Reads.an_amount {text = text} a t n l v w) = amount-small text w
