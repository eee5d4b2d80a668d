-- `rigcactus::rigcactus_print` meets its contract, by a law for each way through it.
use native.Mathlib.Omega.{arith}
use mathlib.Core.Path.{sym, ◌∙◌}
use borrow.Author.Tests.{not-true, not-false}
use Rattle.rigcactus.proofs.PrintingWays.{print_unwritable, print_no_room, print-answered}
use Rattle.rigcactus.proofs.rigcactus_print.Goals as goal

pub returns-then-not-is_writable : goal.returns-then-not-is_writable
returns-then-not-is_writable c = let h = print_unwritable c.args.list.now c.args.«record».now (not-false _ (sym c.is_writable.ensures ∙ c.if-not-is_writable.true)) in record { value = c.number.ensures ∙ h.0; record_after = h.1 }

pub record_length-length-requires : goal.record_length-length-requires
record_length-length-requires c = (not-true _ (sym c.is_writable.ensures ∙ c.if-not-is_writable.false))

pub returns-then-record-length : goal.returns-then-record-length
returns-then-record-length c = let h = print_no_room c.args.list.now c.args.«record».now (not-true _ (sym c.is_writable.ensures ∙ c.if-not-is_writable.false)) (omega (arith, c.record_length-length.ensures.0, c.if-record-length.true)) in record { value = c.number-then-record-length.ensures ∙ h.0; record_after = h.1 }

pub print-requires : goal.print-requires
print-requires c = record { fact_1 = (not-true _ (sym c.is_writable.ensures ∙ c.if-not-is_writable.false)); fact_2 = omega (arith, c.record_length-length.ensures.0, c.if-record-length.false) }

pub returns : goal.returns
returns c = let h = print-answered c.args.list.now c.args.«record».now (not-true _ (sym c.is_writable.ensures ∙ c.if-not-is_writable.false)) (omega (arith, c.record_length-length.ensures.0, c.if-record-length.false)) in record { value = rw c.record_length-length.ensures.0 h.0; record_after = c.print.ensures ∙ h.1 }
