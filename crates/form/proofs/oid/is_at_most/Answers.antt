-- `form::oid::is_at_most` meets its contract.
use native.Mathlib.Omega.{arith}
use Rattle.form.proofs.Oids.{at-most-long, take-digits, at-most-is}
use Rattle.form.proofs.oid.is_at_most.Goals as goal

pub returns-then-n-gt2 : goal.returns-then-n-gt2
returns-then-n-gt2 c = at-most-long c.args.n.now c.args.most c.requires.fact_1 c.requires.fact_2 c.if-n-gt2.true

pub value-requires : goal.value-requires
value-requires c = record { fact_1 = omega (arith, c.if-n-gt2.false); fact_2 = omega arith; fact_3 = take-digits c.args.n.now c.requires.fact_1 }

pub returns : goal.returns
returns c = at-most-is c.args.n.now c.args.most _ c.value.ensures
