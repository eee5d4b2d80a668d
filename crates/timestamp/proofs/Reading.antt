-- The form of a timestamp, part by part.
use Prim.Native.Nat.{ℕ, suc, ◌+◌, ◌≤◌, ◌<◌}
use mathlib.Core.Path.{◌≡◌, refl, subst}
use mathlib.Core.Bool.{Bool, true, false, ◌&&◌, not}
use mathlib.Core.List.{List, [], ◌∷◌}
use mathlib.Core.Option.{none, some}
use native.Mathlib.Omega.{arith}
use borrow.Author.Tests.{le-leb, lt-leb, eqb-true}
use lib.Dec.{eqb}
use lib.ListN.{length, get_or, drop}
use Rattle.std.specs.Prelude.{Option, Some, None}
use Rattle.rules.specs.Basics.{decimal_from}
use Rattle.rules.specs.Parsers.{bad, ok, pure, ◌or◌, one, byte, finish, whole}
use Rattle.rules.proofs.Tests.{clash}
use Rattle.text.proofs.Numerals.{none-at, byte_at, no_byte}
use Rattle.rules.specs.Timestamp.{Zone, no_zone, plus, minus, digits, two_digits, point, hours, zone, timestamp}
use Rattle.text.specs.Numbers.{NumberAt, FractionBy, FractionAt}
use Rattle.text.specs.declared.digits.Fraction.{Fraction}
use Rattle.timestamp.specs.Written.{sign_of, HoursAt, ZoneBy, ZoneAt, fraction_after, zone_after}
use Rattle.timestamp.specs.declared.form.Zoned.{Zoned}
use Rattle.timestamp.specs.declared.form.Hours.{Hours}

-- two digits more, or none
pub two_more : (k : ℕ) (s t : List ℕ) {u : List ℕ} {v : ℕ} {l : List ℕ} → digits 2 s ≡ ok v t → two_digits k t ≡ ok l u → two_digits (suc k) s ≡ ok (v ∷ l) u
unfolding two_digits
two_more k s t e f = rw (e, f) refl

pub two-stop : (k : ℕ) (s : List ℕ) → digits 2 s ≡ bad → two_digits (suc k) s ≡ ok [] s
unfolding two_digits
two-stop k s e = rw e refl

pub two_last : (s : List ℕ) → two_digits 0 s ≡ ok [] s
unfolding two_digits
two_last s = refl

-- hours, with minutes or without
pub hours-none : (s : List ℕ) → digits 2 s ≡ bad → (sign : ℕ → ℕ → Zone) → hours sign s ≡ bad
unfolding hours
hours-none s e sign = rw e refl

pub hours_alone : (s t : List ℕ) {h : ℕ} → digits 2 s ≡ ok h t → digits 2 t ≡ bad → (sign : ℕ → ℕ → Zone) → hours sign s ≡ ok (sign h 0) t
unfolding hours
hours_alone s t e f sign = rw (e, f) refl

pub hours_minutes : (s t : List ℕ) {r : List ℕ} {h m : ℕ} → digits 2 s ≡ ok h t → digits 2 t ≡ ok m r → (sign : ℕ → ℕ → Zone) → hours sign s ≡ ok (sign h m) r
unfolding hours
hours_minutes s t e f sign = rw (e, f) refl

-- an offset, or none
pub zone-plus : (s t : List ℕ) {r : List ℕ} {z : Zone} → byte 43 s ≡ ok 43 t → hours plus t ≡ ok z r → (zone or pure no_zone) s ≡ ok z r
unfolding zone
zone-plus s t e f = rw (e, f) refl

pub zone-minus : (s t : List ℕ) {r : List ℕ} {z : Zone} → byte 43 s ≡ bad → byte 45 s ≡ ok 45 t → hours minus t ≡ ok z r → (zone or pure no_zone) s ≡ ok z r
unfolding zone
zone-minus s t d e f = rw (d, e, f) refl

pub zone-none : (s : List ℕ) → byte 43 s ≡ bad → byte 45 s ≡ bad → (zone or pure no_zone) s ≡ ok no_zone s
unfolding zone
zone-none s d e = rw (d, e) refl

pub zone-plus-none : (s t : List ℕ) → byte 43 s ≡ ok 43 t → hours plus t ≡ bad → byte 45 s ≡ bad → (zone or pure no_zone) s ≡ ok no_zone s
unfolding zone
zone-plus-none s t e f d = rw (e, f, d) refl

pub zone-minus-none : (s t : List ℕ) → byte 43 s ≡ bad → byte 45 s ≡ ok 45 t → hours minus t ≡ bad → (zone or pure no_zone) s ≡ ok no_zone s
unfolding zone
zone-minus-none s t d e f = rw (d, e, f) refl

-- a byte that is neither sign, or a sign with hours or without, by the tests for a plus and for a minus
module _ (s : List ℕ) (at : ℕ) (inside : at < length s) where
  pub no_sign : (not (eqb (get_or s at 0) 43) && not (eqb (get_or s at 0) 45)) ≡ true → (zone or pure no_zone) (drop at s) ≡ ok no_zone (drop at s)
  no_sign = go (eqb (get_or s at 0) 43) (eqb (get_or s at 0) 45) refl refl
    where
      go : (a b : Bool) → eqb (get_or s at 0) 43 ≡ a → eqb (get_or s at 0) 45 ≡ b → (not a && not b) ≡ true → (zone or pure no_zone) (drop at s) ≡ ok no_zone (drop at s)
      go true b p q e = clash (cc)
      go false true p q e = clash (cc)
      go false false p q e = zone-none (drop at s) (none-at (λ c. eqb c 43) s at inside p) (none-at (λ c. eqb c 45) s at inside q)

  pub no_hours : (not (eqb (get_or s at 0) 43) && not (eqb (get_or s at 0) 45)) ≡ false → ((sign : ℕ → ℕ → Zone) → hours sign (drop (at + 1) s) ≡ bad)
      → (zone or pure no_zone) (drop at s) ≡ ok no_zone (drop at s)
  no_hours e h = go (eqb (get_or s at 0) 43) (eqb (get_or s at 0) 45) refl refl e
    where
      go : (a b : Bool) → eqb (get_or s at 0) 43 ≡ a → eqb (get_or s at 0) 45 ≡ b → (not a && not b) ≡ false → (zone or pure no_zone) (drop at s) ≡ ok no_zone (drop at s)
      go true b p q e =
          let is = eqb-true _ 43 p in
          zone-plus-none (drop at s) (drop (at + 1) s) (byte_at 43 s at inside is) (h plus) (no_byte 45 s at inside (λ z. omega (arith, is, z)))
      go false true p q e =
          zone-minus-none (drop at s) (drop (at + 1) s) (none-at (λ c. eqb c 43) s at inside p) (byte_at 45 s at inside (eqb-true _ 45 q)) (h minus)
      go false false p q e = clash (cc)

  pub signed : (o : Hours) → (not (eqb (get_or s at 0) 43) && not (eqb (get_or s at 0) 45)) ≡ false
      → ((sign : ℕ → ℕ → Zone) → hours sign (drop (at + 1) s) ≡ ok (sign o.hours o.minutes) (drop o.end s))
      → (zone or pure no_zone) (drop at s) ≡ ok (sign_of (eqb (get_or s at 0) 45) o.hours o.minutes) (drop o.end s)
  signed o e h = go (eqb (get_or s at 0) 43) (eqb (get_or s at 0) 45) refl refl e
    where
      go : (a b : Bool) → eqb (get_or s at 0) 43 ≡ a → eqb (get_or s at 0) 45 ≡ b → (not a && not b) ≡ false
          → (zone or pure no_zone) (drop at s) ≡ ok (sign_of b o.hours o.minutes) (drop o.end s)
      go true true p q e = absurd (omega (arith, eqb-true _ 43 p, eqb-true _ 45 q))
      go true false p q e = zone-plus (drop at s) (drop (at + 1) s) (byte_at 43 s at inside (eqb-true _ 43 p)) (h plus)
      go false true p q e =
          zone-minus (drop at s) (drop (at + 1) s) (none-at (λ c. eqb c 43) s at inside p) (byte_at 45 s at inside (eqb-true _ 45 q)) (h minus)
      go false false p q e = clash (cc)

-- a fraction, where one may stand
pub fraction_early : (count : ℕ) (s : List ℕ) (at : ℕ) → count < 5 → at ≤ length s → FractionBy (fraction_after count) s at (record { value = 0; count = 0; end = at })
unfolding decimal_from
fraction_early count s at l h =
    record { list = []; reads = rw (lt-leb 5 count l) refl; value = refl; count = refl; few = omega arith; small = omega arith; high = h }

pub fraction_late : (count : ℕ) (s : List ℕ) (at : ℕ) (f : Fraction) → 5 ≤ count → FractionAt s at f → FractionBy (fraction_after count) s at f
fraction_late count s at f l h = record {
  list = h.list;
  reads = rw (le-leb 5 count l) h.reads;
  value = h.value;
  count = h.count;
  few = h.few;
  small = h.small;
  high = h.high;
}

pub zone_early : (count : ℕ) (s : List ℕ) (at : ℕ) → count < 3 → at ≤ length s → ZoneBy (zone_after count) s at (record { zone = None; end = at })
zone_early count s at l h = record { reads = rw (lt-leb 3 count l) refl; small = tt; high = h }

pub zone_late : (count : ℕ) (s : List ℕ) (at : ℕ) (z : Zoned) → 3 ≤ count → ZoneAt s at z → ZoneBy (zone_after count) s at z
zone_late count s at z l h = record { reads = rw (le-leb 3 count l) h.reads; small = h.small; high = h.high }

-- the whole text
pub no_year : (s : List ℕ) → digits 4 s ≡ bad → whole timestamp s ≡ none
unfolding timestamp
no_year s e = rw e refl

module _ (s t u v r : List ℕ) (y : ℕ) (ps f : List ℕ) (z : Zone) (a : digits 4 s ≡ ok y t) (b : two_digits 5 t ≡ ok ps u)
    (c : fraction_after (length ps) u ≡ ok f v) (d : zone_after (length ps) v ≡ ok z r) where
  pub form-whole : r ≡ [] → whole timestamp s ≡ some (record { year = y; parts = ps; fraction = f; zone = z })
  unfolding timestamp finish
  form-whole e = rw (a, b, c, d, e) refl

  pub form_more : (k : ℕ) (l : List ℕ) → r ≡ k ∷ l → whole timestamp s ≡ none
  unfolding timestamp finish
  form_more k l e = rw (a, b, c, d, e) refl

-- nothing follows
pub no_fraction : (s : List ℕ) (at : ℕ) → drop at s ≡ [] → fraction_after 5 (drop at s) ≡ ok [] (drop at s)
unfolding point one
no_fraction s at e = rw e refl

pub no_zone_lem : (s : List ℕ) (at : ℕ) → drop at s ≡ [] → zone_after 5 (drop at s) ≡ ok no_zone (drop at s)
unfolding zone one
no_zone_lem s at e = rw e refl
