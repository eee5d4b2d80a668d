use Rattle.std.proofs.Common.{arith}
use Rattle.element.proofs.Decoded.{on-bounds}
use Rattle.library_examples.proofs.outline.write_value.Goals as goal

pub loop-c-init : goal.loop-c-init
loop-c-init c = c.start-i.ensures.within

pub next-requires : goal.next-requires
next-requires c = c.loop-c.invariant

pub loop-c-smaller : goal.loop-c-smaller
loop-c-smaller c = let n = on-bounds c.in-Some.ensures.on in omega (arith, n.0, n.1)

pub loop-c-preserved : goal.loop-c-preserved
loop-c-preserved c = (on-bounds c.in-Some.ensures.on).1
