-- `printing::is_writable_bound` meets its contract.
use Rattle.std.proofs.Common.{⊎_elim}
use Rattle.printing.proofs.Terms.{writable_tick}
use Rattle.printing.proofs.is_writable_bound.Goals as goal

pub returns-in-Open : goal.returns-in-Open
returns-in-Open c = ⊎_elim (λ e. rw e (writable_tick c.in-Open.t)) (λ e. rw e (writable_tick c.in-Open.t)) c.in-Open.is
