-- From what is written in a text to the answer: a moment, or what is wrong with it.
use Prim.Native.Nat.{ℕ, ◌+◌, ◌≤◌}
use mathlib.Core.Path.{◌≡◌, refl, sym, ◌∙◌, ap, subst}
use mathlib.Core.Bool.{Bool, true, false, ◌&&◌, cond, false≢true}
use mathlib.Core.List.{List}
use Rattle.std.specs.Prelude.{Option, Some, None, Ok, Err, ok_or}
use Rattle.refusal.specs.Meaning.{refusal_of}
use Rattle.refusal.specs.declared.Refusal.{Refusal as RefusalTold}
use Rattle.refusal.specs.declared.Refusal.TheVariants.{Value}
use Rattle.rules.proofs.Tests.{clash}
use Rattle.rules.specs.Refusal.{Refusal, DATE, CLOCK, ZONE, answered, refused}
use Rattle.rules.specs.Timestamp.{is_date, is_clock, is_zone, start_of, unit_length, moment_of as rules_moment, read_timestamp}
use Rattle.rules.proofs.Ticks.{read-wrong-form, read_right_form}
use Rattle.timestamp.specs.Written.{FormOf, parts_of, zone_of, fourteen_written, FourteenOf}
use Rattle.timestamp.specs.Moments.{is_date_of, is_clock_of, unit_ticks, Possible, moment_of, moment_written}
use Rattle.timestamp.specs.declared.form.Parts.{Parts}
use Rattle.timestamp.specs.declared.fourteen.Numbers.{Numbers}
use Rattle.timestamp.specs.declared.form.Written.{Written}
use Rattle.timestamp.proofs.Ranges.{unit_is}

-- a text of the form of a timestamp
pub found_form : (s : List ℕ) (r : Option Written) (c : Written) → FormOf s r → ok_or r Value ≡ Ok c → FormOf s (Some c)
found_form s None c h e = clash (cc)
found_form s (Some d) c h e = let z : d ≡ c = cc in subst (λ w. FormOf s (Some w)) z h

pub found_fourteen : (s : List ℕ) (r : Option Numbers) (n : Numbers) → FourteenOf s r → r ≡ Some n → FormOf s (Some (fourteen_written n))
found_fourteen s r n h e = subst (FourteenOf s) e h

-- a text of the wrong form
pub wrong_form : (shift : ℕ) (s : List ℕ) (r : Option Written) (q : RefusalTold) → FormOf s r → ok_or r Value ≡ Err q → refused (refusal_of q) ≡ read_timestamp shift s
wrong_form shift s None q h e = let z : Value ≡ q = cc in subst (λ x. refused (refusal_of x) ≡ read_timestamp shift s) z (sym (read-wrong-form shift s h))
wrong_form shift s (Some c) q h e = clash (cc)

-- what is wrong, by whether the date is possible, and the clock
abbrev pub wrong_part : (date clock : Bool) → Refusal
wrong_part date clock = cond date (cond clock ZONE CLOCK) DATE

module _ (s : List ℕ) (c : Written) (f : FormOf s (Some c)) where
  field : {A : Type 0} (get : Parts → A) → get c.parts ≡ get (parts_of f.0.parts c.parts.end)
  field get = ap get f.2.parts

  date-is : is_date_of c.year c.parts.month c.parts.day ≡ is_date f.0
  date-is = rw (f.2.year, field (λ p. p.month), field (λ p. p.day)) refl

  clock-is : is_clock_of c.parts.hour c.parts.minute c.parts.second ≡ is_clock f.0
  clock-is = rw (field (λ p. p.hour), field (λ p. p.minute), field (λ p. p.second)) refl

  zone-is : is_zone (zone_of c.zone) ≡ is_zone f.0.zone
  zone-is = ap is_zone f.2.zone

  start_is : (shift : ℕ) → (moment_written shift c).start ≡ start_of shift f.0
  unfolding start_of
  start_is shift =
      rw (f.2.year, field (λ p. p.month), field (λ p. p.day), field (λ p. p.hour), field (λ p. p.minute), field (λ p. p.second), f.2.fraction, f.2.zone) refl

  precision-is : (shift : ℕ) → (moment_written shift c).precision ≡ (rules_moment shift f.0).precision
  precision-is shift = rw (field (λ p. p.count), f.2.count) refl

  unit-same : unit_ticks c.year c.parts.month c.parts.count c.fraction.count ≡ unit_length f.0.year f.0.parts f.0.fraction
  unit-same = rw (f.2.year, field (λ p. p.month), field (λ p. p.count), f.2.count) (sym (unit_is f.0.year f.0.parts f.0.fraction))

  same_moment : (shift : ℕ) → moment_of (moment_written shift c) ≡ rules_moment shift f.0
  same_moment shift = λ i. record { start = start_is shift i; precision = precision-is shift i; next = start_is shift i + unit-same i }

  -- something written is impossible: the first that applies is told
  pub impossible : (shift : ℕ) (a b d : Bool) → is_date_of c.year c.parts.month c.parts.day ≡ a
      → is_clock_of c.parts.hour c.parts.minute c.parts.second ≡ b → is_zone (zone_of c.zone) ≡ d → (a && b && d) ≡ false
      → refused (wrong_part a b) ≡ read_timestamp shift s
  impossible shift a b d p q r e =
      sym (read_right_form shift s f.0 f.1 ∙ rw (sym date-is ∙ p, sym clock-is ∙ q, sym zone-is ∙ r) (go a b d e))
    where
      go : (a b d : Bool) → (a && b && d) ≡ false
          → cond a (cond b (cond d (answered (rules_moment shift f.0)) (refused ZONE)) (refused CLOCK)) (refused DATE) ≡ refused (wrong_part a b)
      go false b d e = refl
      go true false d e = refl
      go true true false e = refl
      go true true true e = absurd (false≢true (sym e))

  -- all of it is possible
  pub moment_is : (shift : ℕ) → Possible shift c → answered (moment_of (moment_written shift c)) ≡ read_timestamp shift s
  moment_is shift h =
      ap answered (same_moment shift) ∙ sym (read_right_form shift s f.0 f.1 ∙ rw (sym date-is ∙ h.date, sym clock-is ∙ h.clock, sym zone-is ∙ h.zone) refl)

  pub possible : (shift : ℕ) → shift ≤ 1680 → is_date_of c.year c.parts.month c.parts.day ≡ true
      → is_clock_of c.parts.hour c.parts.minute c.parts.second ≡ true → is_zone (zone_of c.zone) ≡ true → Possible shift c
  possible shift h p q r = record {
    date = p;
    clock = q;
    zone = r;
    hours = f.2.small.1;
    parts = subst (λ (n : ℕ). n ≤ 5) (sym (field (λ p. p.count))) f.2.few;
    digits = f.2.digits;
    fraction = f.2.small.0;
    agreed = h;
  }
