-- `timestamp::form::read_parts` meets its contract, by the laws of `Parting`.
use mathlib.Core.Path.{refl}
use mathlib.Core.List.{[]}
use native.Mathlib.Omega.{arith}
use Rattle.timestamp.proofs.Parting.{count_more, parts-stop, parts_last, parts_more}
use Rattle.timestamp.proofs.form.read_parts.Goals as goal

pub loop-part-init : goal.loop-part-init
loop-part-init c = (record { list = []; parts = refl; few = omega arith; high = c.requires; goes = λ more e h. h }, refl)

pub read-requires : goal.read-requires
read-requires c = record { fact_1 = omega arith; fact_2 = c.loop-part.invariant.0.high }

pub returns-in_default : goal.returns-in_default
returns-in_default c = parts-stop c.args.s.now c.loop-part.p c.loop-part.invariant.0 (omega (arith, c.loop-part.invariant.1, c.loop-part-test.true)) c.in_default.ensures

pub with_next-p-requires : goal.with_next-p-requires
with_next-p-requires c = record { fact_1 = omega (arith, c.loop-part.invariant.1, c.loop-part-test.true); fact_2 = omega (arith, c.in-Some.ensures.0) }

pub loop-part-preserved : goal.loop-part-preserved
loop-part-preserved c = (parts_more c.args.s.now c.loop-part.p c.loop-part.invariant.0 _ c.with_next-p.result (omega (arith, c.loop-part.invariant.1, c.loop-part-test.true)) c.in-Some.ensures (c.with_next-p.ensures c.loop-part.invariant.0.list c.loop-part.invariant.0.parts), omega (arith, count_more c.args.s.now c.loop-part.p c.loop-part.invariant.0 _ c.with_next-p.result (c.with_next-p.ensures c.loop-part.invariant.0.list c.loop-part.invariant.0.parts), c.loop-part.invariant.1))

pub returns : goal.returns
returns c = parts_last c.args.s.now c.loop-part.p c.loop-part.invariant.0 (omega (arith, c.loop-part.invariant.1, c.loop-part-test.false))
