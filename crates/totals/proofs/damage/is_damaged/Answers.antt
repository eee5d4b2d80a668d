use Rattle.std.proofs.Common.{◌≡◌, length, sym, ◌∙◌, arith}
use Rattle.totals.proofs.Rows.{length_mapped}
use Rattle.totals.proofs.Damaged.{damaged_early, not_early, damaged-row, undamaged-rows, not-bad_more}
use Rattle.totals.proofs.damage.is_damaged.Goals as goal

pub returns-then-t-is_over_counted : goal.returns-then-t-is_over_counted
returns-then-t-is_over_counted c = damaged_early c.args.t c.is_over_counted.result c.is_over_counted.ensures c.if-t-is_over_counted.true

pub loop-k-init : goal.loop-k-init
loop-k-init c = (omega arith, λ j l. absurd (omega arith))

pub is_bad-requires : goal.is_bad-requires
is_bad-requires c = omega (arith, c.loop-k-test.true, not_early c.args.t c.is_over_counted.result c.is_over_counted.ensures c.if-t-is_over_counted.false)

pub returns-then-is_bad : goal.returns-then-is_bad
returns-then-is_bad c =
    let g : length c.args.t.rows ≡ 16 = search length_mapped in
    let (few, below) = not_early c.args.t c.is_over_counted.result c.is_over_counted.ensures c.if-t-is_over_counted.false in
    damaged-row c.args.t g few c.loop-k.k c.loop-k-test.true (sym c.is_bad.ensures ∙ c.if-is_bad.true)

pub loop-k-preserved : goal.loop-k-preserved
loop-k-preserved c = (omega (arith, c.loop-k-test.true), not-bad_more c.args.t.rows c.loop-k.k c.loop-k.invariant.1 (sym c.is_bad.ensures ∙ c.if-is_bad.false))

pub returns : goal.returns
returns c =
    let g : length c.args.t.rows ≡ 16 = search length_mapped in
    let (few, below) = not_early c.args.t c.is_over_counted.result c.is_over_counted.ensures c.if-t-is_over_counted.false in
    let e : c.loop-k.k ≡ c.args.t.held = omega (arith, c.loop-k-test.false, c.loop-k.invariant.0) in
    undamaged-rows c.args.t g few below (λ j l. c.loop-k.invariant.1 j (omega arith))
