-- What is wrong with a text as a timestamp: reading refuses it by what request A5 says.
use Prim.Native.Nat.{ℕ, ◌+◌, ◌*◌}
use mathlib.Core.Path.{◌≡◌, refl, sym, ◌∙◌, ap}
use mathlib.Core.Logic.{◌⊎◌, inl, inr, ◌↔◌}
use mathlib.Core.Bool.{Bool, true, false, ◌&&◌, cond}
use mathlib.Core.List.Memᴰ
use mathlib.Core.List.{List, Memᴰ}
use mathlib.Core.Option.{Option, none, some}
use native.Mathlib.Omega.{arith}
use borrow.Author.Tests.{leb-true, leb-false}
use lib.Dec.{leb}
use Rattle.rules.specs.Basics.{is_from}
use Rattle.rules.specs.Refusal.{Refusal, VALUE, DATE, CLOCK, ZONE, Outcome, answered, refused, faults_of}
use Rattle.rules.specs.Parsers.{whole}
use Rattle.rules.specs.Timestamp.{Zone, no_zone, plus, minus, Written, timestamp, month_of, hour_of, minute_of, second_of, is_date, is_clock, is_offset_time, is_zone, Moment, moment_of, read_timestamp}
use Rattle.rules.proofs.Tests.{clash, both_true, is_from-true}
use Rattle.rules.proofs.Ticks.{read-wrong-form, read_right_form}
use Rattle.demands.specs.WrongTimes.{Spells, Outside, ImpossibleDate, no_year, no_month, no_day, ImpossibleClock, no_hour, no_minute, no_second, OverOffset, ImpossibleOffset, no_plus, no_minus, IsWrongBy, wrong_form, wrong_date, wrong_clock, wrong_zone}
use Rattle.demands.proofs.Spelling.{spells}

one-false : (a b : Bool) → (a && b) ≡ false → (a ≡ false) ⊎ (b ≡ false)
one-false true b e = inr e
one-false false b e = inl refl

is-outside : (low high n : ℕ) → is_from low high n ≡ false → Outside low high n
is-outside low high n e = elim (one-false (leb low n) (leb n high) e) [ inl f ↦ inl (leb-false low n f) | inr f ↦ inr (leb-false n high f) ]

not-outside : (low high n : ℕ) → is_from low high n ≡ true → Outside low high n → ⊥
not-outside low high n e (inl h) = omega (arith, is_from-true low high n e, h)
not-outside low high n e (inr h) = omega (arith, is_from-true low high n e, h)

module _ (w : Written) where
  is_no_date : is_date w ≡ false → ImpossibleDate w
  is_no_date e = elim (one-false (is_from 1 9999 w.year && is_from 1 12 (month_of w)) _ e) [
    | inl f ↦ elim (one-false (is_from 1 9999 w.year) _ f) [ inl g ↦ no_year (is-outside 1 9999 _ g) | inr g ↦ no_month (is-outside 1 12 _ g) ]
    | inr f ↦ no_day (is-outside 1 _ _ f)
  ]

  is-date : is_date w ≡ true → ImpossibleDate w → ⊥
  is-date e n =
      let (f, d) = both_true (is_from 1 9999 w.year && is_from 1 12 (month_of w)) _ e in
      let (y, m) = both_true (is_from 1 9999 w.year) _ f in
      elim n [ no_year h ↦ not-outside 1 9999 _ y h | no_month h ↦ not-outside 1 12 _ m h | no_day h ↦ not-outside 1 _ _ d h ]

  is_no_clock : is_clock w ≡ false → ImpossibleClock w
  is_no_clock e = elim (one-false (leb (hour_of w) 23 && leb (minute_of w) 59) _ e) [
    | inl f ↦ elim (one-false (leb (hour_of w) 23) _ f) [ inl g ↦ no_hour (leb-false _ 23 g) | inr g ↦ no_minute (leb-false _ 59 g) ]
    | inr f ↦ no_second (leb-false _ 59 f)
  ]

  is-clock : is_clock w ≡ true → ImpossibleClock w → ⊥
  is-clock e n =
      let (f, s) = both_true (leb (hour_of w) 23 && leb (minute_of w) 59) _ e in
      let (h, m) = both_true (leb (hour_of w) 23) _ f in
      elim n [
        | no_hour l ↦ omega (arith, l, leb-true (hour_of w) 23 h)
        | no_minute l ↦ omega (arith, l, leb-true (minute_of w) 59 m)
        | no_second l ↦ omega (arith, l, leb-true (second_of w) 59 s)
      ]

is_over : (h m : ℕ) → is_offset_time h m ≡ false → OverOffset h m
is_over h m e = elim (one-false (leb m 59) _ e) [ inl f ↦ inl (leb-false m 59 f) | inr f ↦ inr (leb-false (60 * h + m) 840 f) ]

not_over : (h m : ℕ) → is_offset_time h m ≡ true → OverOffset h m → ⊥
not_over h m e o =
    let (f, g) = both_true (leb m 59) _ e in
    elim o [ inl l ↦ omega (arith, l, leb-true m 59 f) | inr l ↦ omega (arith, l, leb-true (60 * h + m) 840 g) ]

is_no_zone : (z : Zone) → is_zone z ≡ false → ImpossibleOffset z
is_no_zone no_zone e = clash (cc)
is_no_zone (plus h m) e = no_plus (is_over h m e)
is_no_zone (minus h m) e = no_minus (is_over h m e)

is-zone : (z : Zone) → is_zone z ≡ true → ImpossibleOffset z → ⊥
is-zone no_zone e n = elim n [ ]
is-zone (plus h m) e (no_plus o) = not_over h m e o
is-zone (minus h m) e (no_minus o) = not_over h m e o

-- a test is what it is not otherwise
else-true : (b : Bool) → (b ≡ false → ⊥) → b ≡ true
else-true true n = refl
else-true false n = absurd (n refl)

else-false : (b : Bool) → (b ≡ true → ⊥) → b ≡ false
else-false true n = absurd (n refl)
else-false false n = refl

-- reading refuses a text by r exactly if it is wrong by r
module _ (shift : ℕ) (text : List ℕ) where
  refused-wrong : (r : Refusal) → read_timestamp shift text ≡ refused r → IsWrongBy text r
  refused-wrong r e = by_form (whole timestamp text) refl
    where
      by_parts : (w : Written) → Spells text w → (a b c : Bool) → is_date w ≡ a → is_clock w ≡ b → is_zone w.zone ≡ c
          → cond a (cond b (cond c (answered (moment_of shift w)) (refused ZONE)) (refused CLOCK)) (refused DATE) ≡ refused r → IsWrongBy text r
      by_parts w f false b c p q t h = let z : r ≡ DATE = cc in rw z (wrong_date f (is_no_date w p))
      by_parts w f true false c p q t h = let z : r ≡ CLOCK = cc in rw z (wrong_clock f (is-date w p) (is_no_clock w q))
      by_parts w f true true false p q t h = let z : r ≡ ZONE = cc in rw z (wrong_zone f (is-date w p) (is-clock w q) (is_no_zone w.zone t))
      by_parts w f true true true p q t h = clash (cc)

      by_form : (o : Option Written) → whole timestamp text ≡ o → IsWrongBy text r
      by_form none f = let z : r ≡ VALUE = cc (read-wrong-form shift text f) in rw z (wrong_form (λ w g. let h = (spells text w).1 g in clash (cc)))
      by_form (some w) f = by_parts w ((spells text w).0 f) _ _ _ refl refl refl (sym (read_right_form shift text w f) ∙ e)

  wrong-refused : {r : Refusal} → IsWrongBy text r → read_timestamp shift text ≡ refused r
  wrong-refused (wrong_form n) = by_form (whole timestamp text) refl
    where
      by_form : (o : Option Written) → whole timestamp text ≡ o → read_timestamp shift text ≡ refused VALUE
      by_form none f = read-wrong-form shift text f
      by_form (some w) f = absurd (n w ((spells text w).0 f))
  wrong-refused (wrong_date {w = w} f n) = read_right_form shift text w ((spells text w).1 f) ∙ rw (else-false (is_date w) (λ e. is-date w e n)) refl
  wrong-refused (wrong_clock {w = w} f d n) =
      read_right_form shift text w ((spells text w).1 f)
      ∙ rw (else-true (is_date w) (λ e. d (is_no_date w e)), else-false (is_clock w) (λ e. is-clock w e n)) refl
  wrong-refused (wrong_zone {w = w} f d c n) =
      read_right_form shift text w ((spells text w).1 f)
      ∙ rw (else-true (is_date w) (λ e. d (is_no_date w e)), else-true (is_clock w) (λ e. c (is_no_clock w e)), else-false (is_zone w.zone) (λ e. is-zone w.zone e n)) refl

  pub is-wrong_by : (r : Refusal) → read_timestamp shift text ≡ refused r ↔ IsWrongBy text r
  is-wrong_by r = (refused-wrong r, wrong-refused)

-- what is read has no fault, and what is refused has one
pub in_read : (o : Outcome Moment) (r : Refusal) → Memᴰ r (faults_of o) ↔ o ≡ refused r
in_read (answered m) r = (λ m. absurd (Memᴰ.not-nil m), λ e. clash (cc))
in_read (refused q) r = (λ m. ap refused (sym (Memᴰ.eq_of_singleton m)), λ e. let z : q ≡ r = cc in Memᴰ.head (sym z))
