-- What was read of a timestamp, part after part, and the whole text.
use Rattle.std.specs.Prelude.{Some}
use Prim.Native.Nat.{ℕ}
use mathlib.Core.Path.{◌≡◌, refl, ap, subst}
use mathlib.Core.List.{List}
use mathlib.Core.Option.{none, some}
use native.Mathlib.Omega.{arith}
use lib.ListN.{length, drop, drop_of_length-le}
use lib.Seq.{drop-cons}
use Rattle.rules.specs.Parsers.{ok, whole}
use Rattle.rules.specs.Timestamp.{timestamp, Written as RulesWritten}
use Rattle.text.specs.Numbers.{NumberAt, FractionBy}
use Rattle.text.specs.declared.digits.Fraction.{Fraction}
use Rattle.timestamp.specs.Written.{PartsAt, ZoneBy, fraction_after, zone_after, zone_of, Writes}
use Rattle.timestamp.specs.declared.form.Parts.{Parts}
use Rattle.timestamp.specs.declared.form.Zoned.{Zoned}
use Rattle.timestamp.proofs.Reading.{form-whole, form_more}

module _ (s : List ℕ) (year : ℕ) (y : NumberAt s 0 4 (Some year)) (p : Parts) (ps : PartsAt s p)
    (f : Fraction) (fs : FractionBy (fraction_after p.count) s p.end f) (z : Zoned) (zs : ZoneBy (zone_after p.count) s f.end z) where
  counted : p.count ≡ length ps.list
  counted = ap (λ (q : Parts). q.count) ps.parts

  fraction-read : fraction_after (length ps.list) (drop p.end s) ≡ ok fs.list (drop f.end s)
  fraction-read = subst (λ (n : ℕ). fraction_after n (drop p.end s) ≡ ok fs.list (drop f.end s)) counted fs.reads

  zone-read : zone_after (length ps.list) (drop f.end s) ≡ ok (zone_of z.zone) (drop z.end s)
  zone-read = subst (λ (n : ℕ). zone_after n (drop f.end s) ≡ ok (zone_of z.zone) (drop z.end s)) counted zs.reads

  pub whole_longer : (z.end ≡ length s → ⊥) → whole timestamp s ≡ none
  whole_longer h =
      form_more s _ _ _ _ year _ _ _ y.2 ps.reads fraction-read zone-read _ _ (drop-cons s z.end 0 (omega (arith, zs.high)))

  pub whole-written : z.end ≡ length s → (w : RulesWritten) × (whole timestamp s ≡ some w) × Writes w (record { year = year; parts = p; fraction = f; zone = z.zone })
  whole-written e = (
    record { year = year; parts = ps.list; fraction = fs.list; zone = zone_of z.zone },
    form-whole s _ _ _ _ year _ _ _ y.2 ps.reads fraction-read zone-read (drop_of_length-le s {i = z.end} (omega arith)),
    record {
      year = refl;
      parts = ps.parts;
      few = ps.few;
      fraction = fs.value;
      count = fs.count;
      zone = refl;
      digits = fs.few;
      small = (fs.small, zs.small);
    },
  )
