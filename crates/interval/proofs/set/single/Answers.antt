-- `interval::set::single` meets its contract: an interval has a place if its first edge is below its second.
use Rattle.std.proofs.Common.{◌≡◌, length, arith}
use Rattle.interval.proofs.Items.{length_mapped}
use Rattle.interval.proofs.Members.{single_one, single_none}
use Rattle.interval.proofs.set.single.Goals as goal

pub returns-then-low_edge-high_edge : goal.returns-then-low_edge-high_edge
returns-then-low_edge-high_edge c =
    let g : length c.empty-s.result.items ≡ 32 = search length_mapped in
    single_one c.args.v c.requires.fact_1 c.requires.fact_2 c.empty-s.result g (omega (arith, c.low_edge.ensures, c.high_edge.ensures))

pub returns : goal.returns
returns c = single_none c.args.v c.requires.fact_1 c.requires.fact_2 c.empty-s.result c.empty-s.ensures (omega (arith, c.low_edge.ensures, c.high_edge.ensures))
