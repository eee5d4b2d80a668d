use Rattle.std.proofs.Common.{arith}
use Rattle.interval.specs.Meaning.{used}
use Rattle.interval.proofs.Items.{nowhere, ticked-at, used-short, edges-stored}
use Rattle.interval.proofs.edge.edge_numbers.Goals as goal

pub low_edge-requires : goal.low_edge-requires
low_edge-requires c = (ticked-at (used c.args.s) c.loop-k.k nowhere c.requires.ticked c.loop-k-test.true).0

pub high_edge-requires : goal.high_edge-requires
high_edge-requires c = (ticked-at (used c.args.s) c.loop-k.k nowhere c.requires.ticked c.loop-k-test.true).1

pub loop-k-preserved : goal.loop-k-preserved
loop-k-preserved c =
    rw (c.loop-k.invariant, c.low_edge.ensures, c.high_edge.ensures)
    (edges-stored (used c.args.s) c.loop-k.k c.loop-k-test.true nowhere (omega (arith, used-short c.args.s, c.requires.fits)))
