use mathlib.Core.Path.{◌≡◌}
use native.Mathlib.Omega.{arith}
use lib.ListN.{length}
use Rattle.form.proofs.Parting.{part_here, part_stop, part_more}
use Rattle.form.proofs.parts.part_end.Goals as goal

pub loop-i-init : goal.loop-i-init
loop-i-init c = (c.requires, λ e p. p)

pub returns-then-t-i : goal.returns-then-t-i
returns-then-t-i c = c.loop-i.invariant.1 _ (part_here c.args.b c.args.t.now c.loop-i.i c.loop-i-test.true c.if-t-i.true)

pub loop-i-preserved : goal.loop-i-preserved
loop-i-preserved c = (omega arith, λ e p. c.loop-i.invariant.1 e (part_more c.args.b c.args.t.now c.loop-i.i e c.loop-i-test.true c.if-t-i.false p))

pub returns : goal.returns
returns c =
    let e : c.loop-i.i ≡ length c.args.t.now = omega arith in
    rw e at (c.loop-i.invariant.1 _ (part_stop c.args.b c.args.t.now c.loop-i.i c.loop-i.invariant.0 c.loop-i-test.false))
