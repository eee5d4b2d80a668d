-- `element::tag::read_carried` meets its contract.
use Prim.Native.Nat.{◌-◌}
use lib.ListN.{length}
use Rattle.element.proofs.Placing.{So}
use Rattle.element.proofs.tag.read_carried.Given as goal

abbrev pub invariant-loop-start : goal.invariant-loop-start
invariant-loop-start l = So l.s l.at (record { places = l.places; others = l.others; namespaces = l.namespaces; end = l.end })

abbrev pub decreases-loop-start : goal.decreases-loop-start
decreases-loop-start l = length l.s - l.end
