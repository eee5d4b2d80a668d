-- `interval::join::with_interval` meets its contract.
use Rattle.std.proofs.Common.{◌≡◌, List, ◌++◌, take, sym, ap, ◌∙◌, arith}
use Rattle.interval.specs.declared.Interval.{Interval}
use Rattle.interval.specs.Meaning.{used}
use Rattle.interval.specs.Joining.{insert}
use Rattle.interval.proofs.Joining.{holds-empty, holds-joined}
use Rattle.interval.proofs.join.with_interval.Goals as goal

pub returns-then-high_edge-low_edge : goal.returns-then-high_edge-low_edge
returns-then-high_edge-low_edge c = holds-empty c.args.s c.requires.fact_1 c.args.v c.requires.fact_3 c.requires.fact_4 (omega (arith, c.low_edge.ensures, c.high_edge.ensures, c.if-high_edge-low_edge.true))

pub returns : goal.returns
returns c =
    let s = c.args.s in
    let e : used c.replace.result ≡ insert c.args.v (used s) =
    c.replace.ensures.items_are ∙ ap (λ (l : List Interval). take c.count_before-p.result (used s) ++ l) (sym c.join_from-joint.ensures.rest) ∙ sym c.count_before-p.ensures.rest in
    holds-joined s c.requires.fact_1 c.args.v c.requires.fact_3 c.requires.fact_4 c.replace.result (omega (arith, c.low_edge.ensures, c.high_edge.ensures, c.if-high_edge-low_edge.false)) e (omega (arith, c.replace.ensures.count_is, c.join_from-joint.ensures.least)) c.requires.fact_2
