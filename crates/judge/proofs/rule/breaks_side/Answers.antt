-- `judge::rule::breaks_side` meets its contract.
use Rattle.datatype.specs.Bounds.{side_meant}
use Rattle.datatype.proofs.Sayings.{by_child}
use Rattle.judge.proofs.rule.breaks_side.Goals as goal

pub returns : goal.returns
returns c = λ n l k p h.
    let (e, w) = by_child n c.args.side k in
    rw (c.breaks_flag.ensures (side_meant c.args.side) l p, c.is_wrong.ensures, c.endpoint-end.ensures, h, e, w)
