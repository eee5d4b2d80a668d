-- `lent::is_stretch` meets its contract.
use Rattle.rules.specs.LentLists.{signed}
use Rattle.lent.proofs.Bounds.{stretch_is}
use Rattle.lent.proofs.is_stretch.Goals as goal

pub returns : goal.returns
returns c =
    let r = c.args.row in
    rw (c.is_bound.ensures, c.is_bound-2.ensures, c.in_order.ensures) (stretch_is r.low_kind r.high_kind (signed r.low_tick) (signed r.high_tick))
