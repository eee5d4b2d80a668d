-- `judge::rule::breaks_interval` meets its contract.
use Rattle.datatype.specs.declared.bounds.Side.TheVariants.{Low, High}
use Rattle.datatype.proofs.Sayings.{by_child}
use Rattle.judge.proofs.rule.breaks_interval.Goals as goal

pub returns : goal.returns
returns c = λ n l k p q h.
    rw (c.breaks_side-first.ensures n l k p h.0, c.breaks_side-second.ensures n l k q h.1, c.is_crossed.ensures l q, h.0, h.1, (by_child n Low k).0, (by_child n High k).0)
