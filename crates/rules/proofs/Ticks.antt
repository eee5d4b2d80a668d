-- What holds of a timestamp that is read: its parts, and the start, the end and the precision of its span.
use Prim.Native.Nat.{ℕ, zero, suc, ◌+◌, ◌-◌, ◌*◌, ◌^◌, ◌≤◌, ◌<◌}
use mathlib.Core.Path.{◌≡◌, refl, sym, ap, ◌∙◌}
use mathlib.Core.Logic.{inl, inr, ◌↔◌}
use mathlib.Core.Bool.{Bool, true, false, not, cond}
use mathlib.Core.List.{List, [], ◌∷◌, ◌++◌, append-eq-nil_iff}
use mathlib.Core.Option.{Option, none, some}
use native.Mathlib.Nat.{mul-le-mul_right, one-le-pow, add-mul}
use native.Mathlib.Decide.{dec_lt}
use native.Mathlib.Omega.{arith}
use borrow.Author.Tests.{lt-ltb, le-ltb, ltb-true, leb-true, not-false}
use lib.Dec.{leb, ltb}
use lib.ListN.{length}
use lib.IntN.{ℤ, pos, negsuc}
use lib.Pow.{pow-add}
use Rattle.rules.specs.Basics.{if_some, every, is_digit, decimal_from, decimal}
use Rattle.rules.specs.Refusal.{Refusal, VALUE, DATE, CLOCK, ZONE, rank_in, first_of, answered, refused, ◌unless◌, ◌when◌}
use Rattle.rules.specs.Parsers.{ok, next, else, guard, one, up_to, byte, whole}
use Rattle.rules.specs.Calendar.{month_length, days_of_years, days_of_months, days_before_year, second, minute, day}
use Rattle.rules.specs.Timestamp.{Zone, no_zone, plus, minus, Written, digits, two_digits, point, zone, timestamp, month_of, day_of, hour_of, minute_of, second_of, ten_thousandths, is_date, is_clock, is_zone, written_faults, shift_of, start_of, unit_length, Moment, moment_of, is_coarse, read_timestamp}
use Rattle.rules.specs.Check.{is_offset, shift_by}
use Rattle.rules.proofs.Tests.{clash, both_true, is_from-true}
use Rattle.rules.proofs.Parsers.{next-ok, map-ok, cons_ok, else-ok, more, done, more_ok, guard_ok, one_ok, up_to-ok, whole-ok}
use Rattle.rules.proofs.Digits.{decimal-below}
use Rattle.rules.proofs.Calendar.{days_of_years-most, year-least, months_make_year, months_in_year, month_ends}
use Rattle.rules.proofs.Precedence.{when_none, unless_answered}

-- a text is read exactly if it has the form of a timestamp and nothing in it is impossible
pub read-answered : (shift : ℕ) (text : List ℕ) (m : Moment) → read_timestamp shift text ≡ answered m
    ↔ (w : Written) × (whole timestamp text ≡ some w) × (written_faults w ≡ []) × (moment_of shift w ≡ m)
unfolding read_timestamp
read-answered shift text m = (go _ refl, λ (w, f, g, h). rw f ((unless_answered (answered (moment_of shift w)) (written_faults w) m).1 (ap answered h, g)))
  where
    go : (o : Option Written) → whole timestamp text ≡ o → if_some o (λ w. answered (moment_of shift w) unless written_faults w) (refused VALUE) ≡ answered m
        → (w : Written) × (whole timestamp text ≡ some w) × (written_faults w ≡ []) × (moment_of shift w ≡ m)
    go none f e = clash (cc)
    go (some w) f e = let (g, h) = (unless_answered (answered (moment_of shift w)) (written_faults w) m).0 e in (w, f, h, cc)

-- a text of the wrong form is VALUE; of the right form, an impossible date is DATE, else an impossible clock CLOCK, else an impossible offset ZONE
pub read-wrong-form : (shift : ℕ) (text : List ℕ) → whole timestamp text ≡ none → read_timestamp shift text ≡ refused VALUE
unfolding read_timestamp
read-wrong-form shift text f = rw f

pub read_right_form : (shift : ℕ) (text : List ℕ) (w : Written) → whole timestamp text ≡ some w
    → read_timestamp shift text ≡ cond (is_date w) (cond (is_clock w) (cond (is_zone w.zone) (answered (moment_of shift w)) (refused ZONE)) (refused CLOCK)) (refused DATE)
unfolding read_timestamp written_faults first_of rank_in
read_right_form shift text w f = rw f (go (is_date w) (is_clock w) (is_zone w.zone))
  where
    go : (a b c : Bool) → (answered (moment_of shift w) unless DATE when not a ++ CLOCK when not b ++ ZONE when not c)
        ≡ cond a (cond b (cond c (answered (moment_of shift w)) (refused ZONE)) (refused CLOCK)) (refused DATE)
    go true true true = refl
    go true true false = refl
    go true false true = refl
    go true false false = refl
    go false true true = refl
    go false true false = refl
    go false false true = refl
    go false false false = refl

-- what the form of a timestamp gives
pub record Form (w : Written) : Type 0 where
  pub parts_most : length w.parts ≤ 5
  pub fraction_most : length w.fraction ≤ 4
  pub fraction_digits : every is_digit w.fraction ≡ true
  pub fraction_last : length w.parts < 5 → w.fraction ≡ []

pub point-ok : (s : List ℕ) {ds r : List ℕ} → point s ≡ ok ds r → (length ds ≤ 4) × (every is_digit ds ≡ true)
unfolding point every
point-ok s e = next-ok (byte 46 s) _ e λ b t f g.
    let (d, u, ds, h, k, z) = cons_ok (one is_digit t) (up_to 3 is_digit) g in
    let (l, i) = up_to-ok 3 is_digit u k in
    rw (← z) (omega arith, rw (one_ok is_digit t h).1 i)

two_digits-ok : (n : ℕ) (s : List ℕ) {ps r : List ℕ} → two_digits n s ≡ ok ps r → length ps ≤ n
unfolding two_digits
two_digits-ok zero s {ps} e = let z : ps ≡ [] = cc in rw z (omega arith)
two_digits-ok (suc n) s e = elim (more_ok (digits 2 s) (two_digits n) s e) [
  | more a t l f g z ↦ rw (← z) (omega (arith, two_digits-ok n t g))
  | done z ↦ rw z (omega arith)
]

fraction-ok : (n : ℕ) (s : List ℕ) {f r : List ℕ} → else (next (guard (leb 5 n) s) (λ u. point)) (ok [] s) ≡ ok f r
    → (length f ≤ 4) × (every is_digit f ≡ true) × (n < 5 → f ≡ [])
unfolding every
fraction-ok n s {f} e = elim (else-ok (next (guard (leb 5 n) s) (λ u. point)) _ e) [
  | inl e ↦ next-ok (guard (leb 5 n) s) _ e λ u t g h.
      let five = leb-true 5 n (guard_ok (leb 5 n) s g) in
      let (i, k) = point-ok t h in
      (i, k, λ l. absurd (omega arith))
  | inr e ↦ let z : f ≡ [] = cc in rw z (omega arith, refl, λ l. refl)
]

pub form : (s : List ℕ) {w : Written} {r : List ℕ} → timestamp s ≡ ok w r → Form w
unfolding timestamp
form s {w} e =
    next-ok (digits 4 s) _ e λ y s₁ a e₁.
    next-ok (two_digits 5 s₁) _ e₁ λ ps s₂ b e₂.
    next-ok (else (next (guard (leb 5 (length ps)) s₂) (λ u. point)) (ok [] s₂)) _ e₂ λ f s₃ c e₃.
    let (z, d, q) = map-ok (else (next (guard (leb 3 (length ps)) s₃) (λ u. zone)) (ok no_zone s₃)) _ e₃ in
    let (g, h, k) = fraction-ok (length ps) s₂ c in
    rw (← q) (record { parts_most = two_digits-ok 5 s₁ b; fraction_most = g; fraction_digits = h; fraction_last = k })

-- coarser than a second exactly if it stops before ss
pub coarse_parts : (shift : ℕ) (text : List ℕ) (w : Written) → whole timestamp text ≡ some w → is_coarse (moment_of shift w) ≡ ltb (length w.parts) 5
coarse_parts shift text w e =
    let c = form text (whole-ok timestamp text e) in
    elim (dec_lt (length w.parts) 5) [
      | yes l ↦ lt-ltb (moment_of shift w).precision 14 (omega (arith, ap length (c.fraction_last l))) ∙ sym (lt-ltb (length w.parts) 5 l)
      | no l ↦ le-ltb (moment_of shift w).precision 14 (omega arith) ∙ sym (le-ltb (length w.parts) 5 (omega arith))
    ]

-- what the checks give
pub record Possible (w : Written) : Type 0 where
  pub year_low : 1 ≤ w.year
  pub year_high : w.year ≤ 9999
  pub month_low : 1 ≤ month_of w
  pub month_high : month_of w ≤ 12
  pub day_low : 1 ≤ day_of w
  pub day_high : day_of w ≤ month_length w.year (month_of w)
  pub hour_high : hour_of w ≤ 23
  pub minute_high : minute_of w ≤ 59
  pub second_high : second_of w ≤ 59
  pub zone_right : is_zone w.zone ≡ true

unless_not : (r : Refusal) (b : Bool) → (r when not b) ≡ [] → b ≡ true
unless_not r b e = not-false b (when_none r (not b) e)

pub possible : (w : Written) → written_faults w ≡ [] → Possible w
unfolding written_faults
possible w e =
    let (e₂, zone) = append-eq-nil_iff.0 e in
    let (date, clock) = append-eq-nil_iff.0 e₂ in
    let (ym, d) = both_true _ _ (unless_not DATE (is_date w) date) in
    let (y, m) = both_true _ _ ym in
    let (hm, s) = both_true _ _ (unless_not CLOCK (is_clock w) clock) in
    let (h, i) = both_true _ _ hm in
    record {
      year_low = (is_from-true 1 9999 w.year y).0;
      year_high = (is_from-true 1 9999 w.year y).1;
      month_low = (is_from-true 1 12 (month_of w) m).0;
      month_high = (is_from-true 1 12 (month_of w) m).1;
      day_low = (is_from-true 1 (month_length w.year (month_of w)) (day_of w) d).0;
      day_high = (is_from-true 1 (month_length w.year (month_of w)) (day_of w) d).1;
      hour_high = leb-true (hour_of w) 23 h;
      minute_high = leb-true (minute_of w) 59 i;
      second_high = leb-true (second_of w) 59 s;
      zone_right = unless_not ZONE (is_zone w.zone) zone;
    }

-- the digits after the point, and one more of the last of them, are a second at most
pub fraction_in_second : (ds : List ℕ) → length ds ≤ 4 → every is_digit ds ≡ true → ten_thousandths ds + 10 ^ (4 - length ds) ≤ second
fraction_in_second ds l h =
    let rest = 4 - length ds in
    let all : length ds + rest ≡ 4 = omega arith in
    let below : decimal ds + 1 ≤ 10 ^ length ds = omega (arith, decimal-below ds h) in
    omega (arith, mul-le-mul_right (10 ^ rest) below, add-mul (decimal ds) 1 (10 ^ rest), pow-add 10 (length ds) rest, ap (λ n. 10 ^ n) all)

shift_most : (shift : ℕ) (z : Zone) → shift ≤ 1680 → is_zone z ≡ true → shift_of shift z ≤ 1680
shift_most shift no_zone l e = l
shift_most shift (plus h m) l e = omega arith
shift_most shift (minus h m) l e = let (f, g) = both_true (leb m 59) _ e in omega (arith, leb-true (60 * h + m) 840 g)

pub month_in_years : (w : Written) → Possible w → days_before_year w.year + days_of_months w.year (month_of w - 1) + month_length w.year (month_of w) ≤ days_of_years w.year
month_in_years w p = omega (arith, month_ends w.year (month_of w) p.month_low, months_in_year w.year (month_of w) p.year_low p.month_high)

no_fraction : (w : Written) → Form w → length w.parts < 5 → ten_thousandths w.fraction ≡ 0
unfolding decimal_from
no_fraction w c l = rw (c.fraction_last l)

-- a span is not empty, and ends in its year or with it
span : (shift y : ℕ) (ps f : List ℕ) (z : Zone) → let w : Written = record { year = y; parts = ps; fraction = f; zone = z } in
    Form w → Possible w → (1 ≤ unit_length y ps f) × (start_of shift w + unit_length y ps f ≤ days_of_years y * day + shift_of shift z * minute)
unfolding start_of unit_length days_of_months
span shift y [] f z c p = omega (arith, no_fraction _ c (omega arith), year-least y, months_make_year y, months_in_year y 12 p.year_low (omega arith))
span shift y (m ∷ []) f z c p = omega (arith, no_fraction _ c (omega arith), month_in_years _ p)
span shift y (m ∷ d ∷ []) f z c p = omega (arith, no_fraction _ c (omega arith), month_in_years _ p)
span shift y (m ∷ d ∷ h ∷ []) f z c p = omega (arith, no_fraction _ c (omega arith), month_in_years _ p)
span shift y (m ∷ d ∷ h ∷ i ∷ []) f z c p = omega (arith, no_fraction _ c (omega arith), month_in_years _ p)
span shift y (m ∷ d ∷ h ∷ i ∷ s ∷ l) f z c p =
    omega (arith, one-le-pow (4 - length f) 10 (omega arith), fraction_in_second f c.fraction_most c.fraction_digits, month_in_years _ p)

-- an offset within -840..840 is taken into account by 1680 minutes at most
pub shift_by-most : (offset : ℤ) → is_offset offset ≡ true → shift_by offset ≤ 1680
shift_by-most (pos n) e = omega arith
shift_by-most (negsuc n) e = omega (arith, ltb-true n 840 e)

module _ (shift : ℕ) (text : List ℕ) (m : Moment) (read : read_timestamp shift text ≡ answered m) where
  -- the timestamp as written, and what is known of it
  known : (w : Written) × Form w × Possible w × (moment_of shift w ≡ m)
  known = let (w, f, g, h) = (read-answered shift text m).0 read in (w, form text (whole-ok timestamp text f), possible w g, h)

  pub span_not-empty : m.start < m.next
  span_not-empty = let (w, c, p, e) = known in rw (← e) (omega (arith, (span shift w.year w.parts w.fraction w.zone c p).0))

  -- years 1 to 9999, and fourteen hours before and after them
  pub next-most : shift ≤ 1680 → m.next ≤ 3_155_379_984_000_000
  next-most l =
      let (w, c, p, e) = known in
      rw (← e) (omega (arith, (span shift w.year w.parts w.fraction w.zone c p).1, days_of_years-most w.year p.year_high, shift_most shift w.zone l p.zone_right))

  pub ticks_in_60_bits : shift ≤ 1680 → (m.start < 2 ^ 60) × (m.next < 2 ^ 60)
  ticks_in_60_bits l = omega (arith, next-most l, span_not-empty)

  pub precision-range : (4 ≤ m.precision) × (m.precision ≤ 18)
  precision-range = let (w, c, p, e) = known in rw (← e) (omega (arith, c.parts_most, c.fraction_most))
