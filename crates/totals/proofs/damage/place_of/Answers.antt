use Rattle.std.proofs.Common.{◌≡◌, length, arith}
use Rattle.totals.proofs.Places.{searching, found, not_yet, nowhere}
use Rattle.totals.proofs.Rows.{length_mapped}
use Rattle.totals.proofs.damage.place_of.Goals as goal

pub loop-k-init : goal.loop-k-init
loop-k-init c = (omega arith, searching _ _)

pub offset_bounds-t-k : goal.offset_bounds-t-k
offset_bounds-t-k c = omega (arith, c.requires, c.loop-k-test.true)

pub bounds-t-k : goal.bounds-t-k
bounds-t-k c = omega (arith, c.requires, c.loop-k-test.true)

pub returns-then-t-k : goal.returns-then-t-k
returns-then-t-k c =
    let g : length c.args.t.rows ≡ 16 = search length_mapped in
    found c.args.currency c.args.t.rows c.args.n c.loop-k.k (omega (arith, c.requires)) c.loop-k.invariant.1 c.loop-k-test.true c.if-t-k.true

pub loop-k-preserved : goal.loop-k-preserved
loop-k-preserved c =
    let g : length c.args.t.rows ≡ 16 = search length_mapped in
    (omega (arith, c.loop-k-test.true), not_yet c.args.currency c.args.t.rows c.args.n c.loop-k.k (omega (arith, c.requires)) c.loop-k.invariant.1 c.loop-k-test.true c.if-t-k.false)

pub returns : goal.returns
returns c =
    let g : length c.args.t.rows ≡ 16 = search length_mapped in
    nowhere c.args.currency c.args.t.rows c.args.n c.loop-k.k (omega (arith, c.requires)) c.loop-k.invariant.1 c.loop-k-test.false c.loop-k.invariant.0
