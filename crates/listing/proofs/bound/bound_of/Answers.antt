-- `listing::bound::bound_of` meets its contract.
use mathlib.Core.Path.{sym, ◌∙◌}
use Rattle.datatype.specs.Said.{said_meant}
use Rattle.listing.proofs.Bounds.{bound_said, bound_kept}
use Rattle.listing.proofs.bound.bound_of.Goals as goal

pub returns-in_err-b-clause-tells : goal.returns-in_err-b-clause-tells
returns-in_err-b-clause-tells c =
    bound_said (said_meant c.args.said) c.args.side c.args.closed c.endpoint-end.result c.endpoint-end.ensures c.read_bound.ensures _ (c.in_err-b.was ∙ sym c.from_residual.ensures)

pub returns-then-is_ticked-clause-tells : goal.returns-then-is_ticked-clause-tells
returns-then-is_ticked-clause-tells c =
    bound_said (said_meant c.args.said) c.args.side c.args.closed c.endpoint-end.result c.endpoint-end.ensures c.read_bound.ensures _ (c.in_ok-b.was)

pub returns-clause-tells : goal.returns-clause-tells
returns-clause-tells c =
    bound_kept (said_meant c.args.said) c.args.side c.args.closed c.endpoint-end.result c.endpoint-end.ensures c.read_bound.ensures (c.in_ok-b.was) (sym c.is_ticked.ensures ∙ c.if-is_ticked.false)
