-- `lent::are_parted` meets its contract.
use Rattle.rules.specs.LentLists.{signed}
use Rattle.lent.proofs.Bounds.{parted_is}
use Rattle.lent.proofs.are_parted.Goals as goal

pub returns : goal.returns
returns c =
    let a = c.args in
    let p = c.requires in
    rw c.in_order.ensures (parted_is a.row.high_kind a.next.low_kind (signed a.row.high_tick) (signed a.next.low_tick) p.fact_1 p.fact_2)
