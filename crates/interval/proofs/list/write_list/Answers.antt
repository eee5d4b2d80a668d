use Rattle.std.proofs.Common.{◌*◌, ◌≤◌, length, ◌∙◌, arith, take_all}
use Rattle.interval.specs.Meaning.{used}
use Rattle.interval.proofs.Items.{nowhere, ticked-at, used-short}
use Rattle.interval.proofs.Writing.{nothing_written, written_more, length_more}
use Rattle.interval.proofs.list.write_list.Goals as goal

pub loop-k-init : goal.loop-k-init
loop-k-init c = nothing_written c.args.out.now

pub write_interval-requires : goal.write_interval-requires
write_interval-requires c =
    let t = ticked-at (used c.args.s) c.loop-k.k nowhere c.requires.fact_1.ticked c.loop-k-test.true in
    record { fact_1 = t.0; fact_2 = t.1; fact_3 = omega (arith, c.requires.fact_2, used-short c.args.s, c.loop-k-test.true) }

pub loop-k-preserved : goal.loop-k-preserved
loop-k-preserved c =
    let l = c.loop-k in
    let u = used c.args.s in
    let h = c.loop-k-test.true in
    let t = ticked-at u l.k nowhere c.requires.fact_1.ticked h in
    let room : 32 * l.k ≤ length c.args.out.now = omega (arith, c.requires.fact_2, used-short c.args.s, h) in (
      c.write_interval.ensures ∙ written_more u c.args.out.now l.out l.k h nowhere l.invariant.0 l.invariant.1 room,
      length_more u c.args.out.now l.out l.k h nowhere l.invariant.0 l.invariant.1 room t.0 t.1,
    )

pub returns : goal.returns
returns c = rw (take_all c.loop-k.k (used c.args.s) c.loop-k-test.false) at c.loop-k.invariant.0
