-- `printing::size::high_size` meets its contract.
use native.Mathlib.Omega.{arith}
use mathlib.Core.Path.{sym, ap, ◌∙◌}
use Rattle.rules.proofs.Pieces.{high_size, high-length}
use Rattle.printing.specs.Terms.{bound_meant}
use Rattle.printing.proofs.size.high_size.Goals as goal

pub returns-in-Unbounded : goal.returns-in-Unbounded
returns-in-Unbounded c = (sym (high-length (bound_meant c.args.b) c.requires ∙ ap (λ b. high_size (bound_meant b)) c.in-Unbounded.is), omega arith)

pub returns-in-Open : goal.returns-in-Open
returns-in-Open c = (sym (high-length (bound_meant c.args.b) c.requires ∙ ap (λ b. high_size (bound_meant b)) c.in-Open.is), omega arith)

pub returns-in-Closed : goal.returns-in-Closed
returns-in-Closed c = (sym (high-length (bound_meant c.args.b) c.requires ∙ ap (λ b. high_size (bound_meant b)) c.in-Closed.is), omega arith)
