use Rattle.rigcactus.proofs.Checking.{check-offset, check-judged}
use Rattle.rules.specs.Check.{is_offset, shift_by}
use mir.ValLaws.{to_z-of_z}
use mir.Syntax.{w64}
use mathlib.Core.Path.{◌≡◌, sym, ◌∙◌, subst}
use Rattle.rigcactus.proofs.rigcactus_check.Goals as goal

pub returns-then-not-is_offset : goal.returns-then-not-is_offset
returns-then-not-is_offset c =
    c.number.ensures ∙ check-offset c.args.offset c.args.«record».now (sym (subst (λ z. c.is_offset.result ≡ is_offset z) (to_z-of_z w64 c.args.offset c.ranges.offset) c.is_offset.ensures) ∙ c.if-not-is_offset.true)

pub shift_of-requires : goal.shift_of-requires
shift_of-requires c = sym c.is_offset.ensures ∙ c.if-not-is_offset.false

pub returns : goal.returns
returns c =
    c.verdict_number.ensures ∙ check-judged c.args.offset c.args.«record».now (sym (subst (λ z. c.is_offset.result ≡ is_offset z) (to_z-of_z w64 c.args.offset c.ranges.offset) c.is_offset.ensures) ∙ c.if-not-is_offset.false) (subst (λ z. c.shift_of.result.minutes ≡ shift_by z) (to_z-of_z w64 c.args.offset c.ranges.offset) c.shift_of.ensures) c.check-checked.ensures.fault
