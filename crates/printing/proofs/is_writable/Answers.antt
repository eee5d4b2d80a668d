-- `printing::is_writable` meets its contract.
use mathlib.Core.Path.{sym, ◌∙◌}
use borrow.Author.Tests.{not-true, not-false}
use Rattle.printing.proofs.Records.{improper_unwritable, proper_writable}
use Rattle.printing.proofs.is_writable.Goals as goal

pub returns-then-not-is_proper : goal.returns-then-not-is_proper
returns-then-not-is_proper c = improper_unwritable c.args.list.now (not-false _ (sym c.is_proper.ensures ∙ c.if-not-is_proper.true))

pub are_writable-requires : goal.are_writable-requires
are_writable-requires c = not-true _ (sym c.is_proper.ensures ∙ c.if-not-is_proper.false)

pub returns : goal.returns
returns c = c.are_writable.ensures ∙ proper_writable c.args.list.now (not-true _ (sym c.is_proper.ensures ∙ c.if-not-is_proper.false))
