use Rattle.rigcactus.proofs.Held.{accepted-held}
use Rattle.rigcactus.proofs.ListingWays.{list-offset, list-refused, list-answered}
use Rattle.rules.specs.Check.{is_offset, shift_by}
use Rattle.rules.specs.ListingPromise.{is_listed}
use Rattle.refusal.specs.Meaning.{fault_of}
use mir.ValLaws.{to_z-of_z}
use mir.Syntax.{w64}
use mathlib.Core.Path.{◌≡◌, sym, ◌∙◌, ap, subst}
use Rattle.rigcactus.proofs.rigcactus_list.Goals as goal

pub returns-then-not-is_offset : goal.returns-then-not-is_offset
returns-then-not-is_offset c =
    let h = list-offset c.args.offset c.args.«record».now c.args.list.now (sym (subst (λ z. c.is_offset.result ≡ is_offset z) (to_z-of_z w64 c.args.offset c.ranges.offset) c.is_offset.ensures) ∙ c.if-not-is_offset.true) in record { value = c.number.ensures ∙ h.answers; list_after = h.leaves }

pub shift_of-shift-requires : goal.shift_of-shift-requires
shift_of-shift-requires c = sym c.is_offset.ensures ∙ c.if-not-is_offset.false

pub returns-in-Err : goal.returns-in-Err
returns-in-Err c =
    let h = list-refused c.args.offset c.args.«record».now c.args.list.now (sym (subst (λ z. c.is_offset.result ≡ is_offset z) (to_z-of_z w64 c.args.offset c.ranges.offset) c.is_offset.ensures) ∙ c.if-not-is_offset.false) (subst (λ z. c.shift_of-shift.result.minutes ≡ shift_by z) (to_z-of_z w64 c.args.offset c.ranges.offset) c.shift_of-shift.ensures) (sym (ap fault_of c.in-Err.is) ∙ (c.typed_fault-fault.ensures c.shift_of-shift.result.minutes c.args.«record».now is_listed c.check-checked.ensures c.is_listed.ensures)) in
    record { value = c.number-in-Err.ensures ∙ h.answers; list_after = h.leaves }

pub list-listed-requires : goal.list-listed-requires
list-listed-requires c = c.check-checked.ensures.within

pub listed_number-requires : goal.listed_number-requires
listed_number-requires c = c.list-listed.ensures.few

pub returns : goal.returns
returns c =
    let h = list-answered c.args.offset c.args.«record».now c.args.list.now (sym (subst (λ z. c.is_offset.result ≡ is_offset z) (to_z-of_z w64 c.args.offset c.ranges.offset) c.is_offset.ensures) ∙ c.if-not-is_offset.false) (subst (λ z. c.shift_of-shift.result.minutes ≡ shift_by z) (to_z-of_z w64 c.args.offset c.ranges.offset) c.shift_of-shift.ensures) (sym (ap fault_of c.in_default.is) ∙ (c.typed_fault-fault.ensures c.shift_of-shift.result.minutes c.args.«record».now is_listed c.check-checked.ensures c.is_listed.ensures)) (λ e a. c.list-listed.ensures.tells e (accepted-held c.check-checked.result c.check-checked.ensures c.args.offset e a)) in
    record { value = c.listed_number.ensures ∙ h.answers; list_after = h.leaves }
