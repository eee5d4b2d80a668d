use Rattle.rigcactus.proofs.Held.{accepted-held}
use Rattle.rigcactus.proofs.ComparingWays.{judged-refused, judged-accepted, compare_offset, compare_first, compare_second, compare_both}
use Rattle.rules.specs.Check.{is_offset, shift_by}
use Rattle.refusal.specs.Meaning.{fault_of}
use mir.ValLaws.{to_z-of_z}
use mir.Syntax.{w64}
use mathlib.Core.Path.{◌≡◌, sym, ◌∙◌, ap, subst}
use Rattle.rigcactus.proofs.rigcactus_compare.Goals as goal

pub returns-then-not-is_offset : goal.returns-then-not-is_offset
returns-then-not-is_offset c =
    c.first_refused.ensures ∙ compare_offset c.args.offset c.args.first.now c.args.second.now (sym (subst (λ z. c.is_offset.result ≡ is_offset z) (to_z-of_z w64 c.args.offset c.ranges.offset) c.is_offset.ensures) ∙ c.if-not-is_offset.true)

pub shift_of-shift-requires : goal.shift_of-shift-requires
shift_of-shift-requires c = sym c.is_offset.ensures ∙ c.if-not-is_offset.false

pub returns-in-Err : goal.returns-in-Err
returns-in-Err c =
    c.first_refused-in-Err.ensures ∙ compare_first c.args.offset c.args.first.now c.args.second.now _
    (judged-refused c.args.offset c.args.first.now (sym (subst (λ z. c.is_offset.result ≡ is_offset z) (to_z-of_z w64 c.args.offset c.ranges.offset) c.is_offset.ensures) ∙ c.if-not-is_offset.false) (subst (λ z. c.shift_of-shift.result.minutes ≡ shift_by z) (to_z-of_z w64 c.args.offset c.ranges.offset) c.shift_of-shift.ensures) _ (sym (ap fault_of c.in-Err.is) ∙ c.check-one.ensures.fault))

pub returns-in-Err-fault : goal.returns-in-Err-fault
returns-in-Err-fault c =
    let (a, h) = judged-accepted c.args.offset c.args.first.now (sym (subst (λ z. c.is_offset.result ≡ is_offset z) (to_z-of_z w64 c.args.offset c.ranges.offset) c.is_offset.ensures) ∙ c.if-not-is_offset.false) (subst (λ z. c.shift_of-shift.result.minutes ≡ shift_by z) (to_z-of_z w64 c.args.offset c.ranges.offset) c.shift_of-shift.ensures) (sym (ap fault_of c.in_default.is) ∙ c.check-one.ensures.fault) in
    c.second_refused.ensures ∙ compare_second c.args.offset c.args.first.now c.args.second.now a h _
    (judged-refused c.args.offset c.args.second.now (sym (subst (λ z. c.is_offset.result ≡ is_offset z) (to_z-of_z w64 c.args.offset c.ranges.offset) c.is_offset.ensures) ∙ c.if-not-is_offset.false) (subst (λ z. c.shift_of-shift.result.minutes ≡ shift_by z) (to_z-of_z w64 c.args.offset c.ranges.offset) c.shift_of-shift.ensures) _ (sym (ap fault_of c.in-Err-fault.is) ∙ c.check-other.ensures.fault))

pub compare-requires : goal.compare-requires
compare-requires c =
    record { fact_1 = c.check-one.ensures.within; fact_2 = c.check-other.ensures.within }

pub returns : goal.returns
returns c =
    let (a, h) = judged-accepted c.args.offset c.args.first.now (sym (subst (λ z. c.is_offset.result ≡ is_offset z) (to_z-of_z w64 c.args.offset c.ranges.offset) c.is_offset.ensures) ∙ c.if-not-is_offset.false) (subst (λ z. c.shift_of-shift.result.minutes ≡ shift_by z) (to_z-of_z w64 c.args.offset c.ranges.offset) c.shift_of-shift.ensures) (sym (ap fault_of c.in_default.is) ∙ c.check-one.ensures.fault) in
    let (b, k) = judged-accepted c.args.offset c.args.second.now (sym (subst (λ z. c.is_offset.result ≡ is_offset z) (to_z-of_z w64 c.args.offset c.ranges.offset) c.is_offset.ensures) ∙ c.if-not-is_offset.false) (subst (λ z. c.shift_of-shift.result.minutes ≡ shift_by z) (to_z-of_z w64 c.args.offset c.ranges.offset) c.shift_of-shift.ensures) (sym (ap fault_of c.in_default-fault.is) ∙ c.check-other.ensures.fault) in
    c.compared_number.ensures ∙ compare_both c.args.offset c.args.first.now c.args.second.now a h b k (subst (λ z. c.shift_of-shift.result.minutes ≡ shift_by z) (to_z-of_z w64 c.args.offset c.ranges.offset) c.shift_of-shift.ensures)
    (c.compare.ensures a b (accepted-held c.check-one.result c.check-one.ensures c.args.offset a h) (accepted-held c.check-other.result c.check-other.ensures c.args.offset b k))
