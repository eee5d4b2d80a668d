-- `rigcactus::rigcactus_tick` meets its contract, by a law for each way through it.
use mathlib.Core.Path.{◌≡◌, refl, sym, ◌∙◌, subst}
use mir.Syntax.{w64}
use mir.ValLaws.{to_z-of_z}
use Rattle.rules.specs.Check.{is_offset, shift_by}
use native.Mathlib.Omega.{arith}
use Rattle.rules.proofs.Ticks.{ticks_in_60_bits, precision-range}
use Rattle.rigcactus.proofs.Timing.{timing-offset, timing-long, timing-passed, passed_on, read_at}
use Rattle.rigcactus.proofs.rigcactus_tick.Goals as goal

pub returns-then-not-is_offset : goal.returns-then-not-is_offset
returns-then-not-is_offset c = let t = timing-offset c.args.offset c.args.text.now (sym (subst (λ z. c.is_offset.result ≡ is_offset z) (to_z-of_z w64 c.args.offset c.ranges.offset) c.is_offset.ensures) ∙ c.if-not-is_offset.true) in record { value = c.number.ensures ∙ rw t refl; tick_after = rw t refl }

pub returns-then-text-gt-MOST : goal.returns-then-text-gt-MOST
returns-then-text-gt-MOST c = let t = timing-long c.args.offset c.args.text.now (sym (subst (λ z. c.is_offset.result ≡ is_offset z) (to_z-of_z w64 c.args.offset c.ranges.offset) c.is_offset.ensures) ∙ c.if-not-is_offset.false) c.if-text-gt-MOST.true in record { value = c.number-then-text-gt-MOST.ensures ∙ rw t refl; tick_after = rw t refl }

pub shift_of-requires : goal.shift_of-requires
shift_of-requires c = sym c.is_offset.ensures ∙ c.if-not-is_offset.false

pub returns-in_default : goal.returns-in_default
returns-in_default c = let all = passed_on c.args.offset c.args.text.now _ _ c.in_default.is (timing-passed _ _ _ _ (sym (subst (λ z. c.is_offset.result ≡ is_offset z) (to_z-of_z w64 c.args.offset c.ranges.offset) c.is_offset.ensures) ∙ c.if-not-is_offset.false) c.if-text-gt-MOST.false (subst (λ z. c.shift_of.result.minutes ≡ shift_by z) (to_z-of_z w64 c.args.offset c.ranges.offset) c.shift_of.ensures) c.read-answer.ensures) _ (c.verdict_number.ensures ∙ rw (c.and.ensures, c.in_default.is) refl) in record { value = all.0; tick_after = all.1 }

pub signed_tick-requires : goal.signed_tick-requires
signed_tick-requires c = (ticks_in_60_bits _ _ _ (read_at _ _ _ _ c.read-answer.ensures c.in-Ok.is) c.shift_of.result.small).0

pub overflow_mul-result : goal.overflow_mul-result
overflow_mul-result c = omega (arith, precision-range _ _ _ (read_at _ _ _ _ c.read-answer.ensures c.in-Ok.is))

pub returns : goal.returns
returns c = let t = timing-passed c.args.offset c.args.text.now _ _ (sym (subst (λ z. c.is_offset.result ≡ is_offset z) (to_z-of_z w64 c.args.offset c.ranges.offset) c.is_offset.ensures) ∙ c.if-not-is_offset.false) c.if-text-gt-MOST.false (subst (λ z. c.shift_of.result.minutes ≡ shift_by z) (to_z-of_z w64 c.args.offset c.ranges.offset) c.shift_of.ensures) (sym (read_at _ _ _ _ c.read-answer.ensures c.in-Ok.is)) in record { value = rw t refl; tick_after = rw t (to_z-of_z w64 c.signed_tick.result (record { sfits = c.signed_tick.type_inv }) ∙ c.signed_tick.ensures) }
