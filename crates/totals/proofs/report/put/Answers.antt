-- `totals::report::put` meets its contract.
use Rattle.std.proofs.Common.{◌∙◌, arith}
use Rattle.totals.proofs.Putting.{counts-room, counts-put}
use Rattle.totals.proofs.report.put.Goals as goal

pub bounds-out-0 : goal.bounds-out-0
bounds-out-0 c = omega (arith, c.requires.fact_2)

pub bounds-out-1 : goal.bounds-out-1
bounds-out-1 c = omega (arith, c.requires.fact_2, (counts-room c.args.out.now c.args.t c.requires.fact_2).0)

pub bounds-out-2 : goal.bounds-out-2
bounds-out-2 c = omega (arith, c.requires.fact_2, (counts-room c.args.out.now c.args.t c.requires.fact_2).1)

pub put_rows-requires : goal.put_rows-requires
put_rows-requires c = record { fact_1 = c.requires.fact_1; fact_2 = omega (arith, c.requires.fact_2, (counts-room c.args.out.now c.args.t c.requires.fact_2).2) }

pub shape_of-out : goal.shape_of-out
shape_of-out c = c.put_rows.auto.out ∙ (counts-room c.args.out.now c.args.t c.requires.fact_2).2

pub returns : goal.returns
returns c = c.put_rows.ensures ∙ counts-put c.args.out.now c.args.t c.requires.fact_2
