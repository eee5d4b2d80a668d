-- `totals::entry::is_money` meets its contract.
use Rattle.std.proofs.Common.{◌∙◌}
use Rattle.totals.proofs.Entering.{mo_told}
use Rattle.totals.proofs.entry.is_money.Goals as goal

pub returns : goal.returns
returns c = λ s e h. c.eq.ensures ∙ mo_told h
