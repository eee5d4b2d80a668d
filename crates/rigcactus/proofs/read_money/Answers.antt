-- `rigcactus::read_money` meets its contract.
use Rattle.std.proofs.lemmas.Result.{err_from_is_err_and}
use mathlib.Core.Path.{◌≡◌, sym, ◌∙◌, ap, subst}
use mir.ValLaws.{to_z-of_z}
use mir.Syntax.{w64}
use Rattle.rules.specs.Check.{is_offset, shift_by}
use Rattle.refusal.specs.Meaning.{fault_of}
use Rattle.rules.specs.Refusal.{answered}
use Rattle.rules.proofs.ListingCases.{check_faultless}
use Rattle.rigcactus.proofs.Held.{accepted-held}
use Rattle.rigcactus.proofs.TypedFaults.{typed-accepted}
use Rattle.rigcactus.proofs.MoneyWays.{is_money, refused-read, money-offset, money-refused, money-read}
use Rattle.rigcactus.proofs.read_money.Goals as goal

pub returns-then-not-is_offset : goal.returns-then-not-is_offset
returns-then-not-is_offset c = refused-read c.args.offset c.args.«record».now (money-offset c.args.offset c.args.«record».now (sym (subst (λ z. c.is_offset.result ≡ is_offset z) (to_z-of_z w64 c.args.offset c.ranges.offset) c.is_offset.ensures) ∙ c.if-not-is_offset.true))

pub shift_of-requires : goal.shift_of-requires
shift_of-requires c = sym c.is_offset.ensures ∙ c.if-not-is_offset.false

pub returns-in_err-typed_fault : goal.returns-in_err-typed_fault
returns-in_err-typed_fault c = let p = err_from_is_err_and c.from_residual.result c.from_residual.ensures.1 in rw (p.1, p.2) (refused-read c.args.offset c.args.«record».now (money-refused c.args.offset c.args.«record».now (sym (subst (λ z. c.is_offset.result ≡ is_offset z) (to_z-of_z w64 c.args.offset c.ranges.offset) c.is_offset.ensures) ∙ c.if-not-is_offset.false) (subst (λ z. c.shift_of.result.minutes ≡ shift_by z) (to_z-of_z w64 c.args.offset c.ranges.offset) c.shift_of.ensures) (sym (ap fault_of c.in_err-typed_fault.was) ∙ (c.typed_fault.ensures c.shift_of.result.minutes c.args.«record».now is_money c.check-checked.ensures c.is_money.ensures))))

pub read-requires : goal.read-requires
read-requires c = c.check-checked.ensures.within

pub returns : goal.returns
returns c =
    let (e, a, m) = typed-accepted is_money c.args.offset c.args.«record».now (sym (subst (λ z. c.is_offset.result ≡ is_offset z) (to_z-of_z w64 c.args.offset c.ranges.offset) c.is_offset.ensures) ∙ c.if-not-is_offset.false) (subst (λ z. c.shift_of.result.minutes ≡ shift_by z) (to_z-of_z w64 c.args.offset c.ranges.offset) c.shift_of.ensures) (sym (ap fault_of c.in_ok-typed_fault.was) ∙ (c.typed_fault.ensures c.shift_of.result.minutes c.args.«record».now is_money c.check-checked.ensures c.is_money.ensures)) in
    let (x, y) = c.read.ensures e (shift_by c.args.offset) (accepted-held c.check-checked.result c.check-checked.ensures c.args.offset e a) (check_faultless c.args.offset c.args.«record».now a) m in
    (x, ap answered y ∙ money-read c.args.offset c.args.«record».now e a m)
