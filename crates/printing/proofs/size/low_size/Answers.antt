-- `printing::size::low_size` meets its contract.
use native.Mathlib.Omega.{arith}
use mathlib.Core.Path.{sym, ap, ◌∙◌}
use Rattle.rules.proofs.Pieces.{low_size, low-length}
use Rattle.printing.specs.Terms.{bound_meant}
use Rattle.printing.proofs.size.low_size.Goals as goal

pub returns-in-Unbounded : goal.returns-in-Unbounded
returns-in-Unbounded c = (sym (low-length (bound_meant c.args.b) c.requires ∙ ap (λ b. low_size (bound_meant b)) c.in-Unbounded.is), omega arith)

pub returns-in-Open : goal.returns-in-Open
returns-in-Open c = (sym (low-length (bound_meant c.args.b) c.requires ∙ ap (λ b. low_size (bound_meant b)) c.in-Open.is), omega arith)

pub returns-in-Closed : goal.returns-in-Closed
returns-in-Closed c = (sym (low-length (bound_meant c.args.b) c.requires ∙ ap (λ b. low_size (bound_meant b)) c.in-Closed.is), omega arith)
