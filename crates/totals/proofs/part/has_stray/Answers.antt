use Rattle.std.proofs.Common.{ap, not}
use Rattle.std.proofs.Common.{refl, arith}
use Rattle.totals.proofs.Owners.{begin, stray, more, none_stray}
use Rattle.totals.proofs.part.has_stray.Goals as goal

pub loop-k-init : goal.loop-k-init
loop-k-init c = begin c.args.numbers.now _ refl

pub overflow_mul-k : goal.overflow_mul-k
overflow_mul-k c = omega (arith, c.loop-k-test.true, c.requires)

pub overflow_add-k : goal.overflow_add-k
overflow_add-k c = omega (arith, c.loop-k-test.true, c.requires)

pub offset_bounds-numbers-k : goal.offset_bounds-numbers-k
offset_bounds-numbers-k c = omega (arith, c.loop-k-test.true, c.requires)

pub bounds-numbers-k : goal.bounds-numbers-k
bounds-numbers-k c = omega (arith, c.loop-k-test.true, c.requires)

pub returns-then-not-is_desk : goal.returns-then-not-is_desk
returns-then-not-is_desk c = stray c.args.numbers.now _ c.loop-k.k c.loop-k.invariant c.loop-k-test.true c.is_desk.ensures (ap not c.if-not-is_desk.true)

pub loop-k-preserved : goal.loop-k-preserved
loop-k-preserved c = more c.args.numbers.now _ c.loop-k.k c.loop-k.invariant c.loop-k-test.true c.is_desk.ensures (ap not c.if-not-is_desk.false)

pub returns : goal.returns
returns c = none_stray c.args.numbers.now _ c.loop-k.k c.loop-k.invariant c.loop-k-test.false
