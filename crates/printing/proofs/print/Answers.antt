-- `printing::print` meets its contract.
use native.Mathlib.Omega.{arith}
use Rattle.writer.proofs.Placing.{overwrite-placed, put_both}
use Rattle.printing.proofs.Records.{record_pieces, record_size}
use Rattle.printing.proofs.print.Goals as goal

pub put-a-requires : goal.put-a-requires
put-a-requires c = omega (arith, c.requires.fact_2, record_size c.args.list.now c.requires.fact_1)

pub put_terms-b-requires : goal.put_terms-b-requires
put_terms-b-requires c = record { fact_1 = c.requires.fact_1; fact_2 = omega (arith, c.requires.fact_2, record_size c.args.list.now c.requires.fact_1, c.put-a.ensures.next_is, c.put-a.auto.out) }

pub put-requires : goal.put-requires
put-requires c = omega (arith, c.requires.fact_2, record_size c.args.list.now c.requires.fact_1, c.put-a.ensures.next_is, c.put-a.auto.out, c.put_terms-b.ensures.next_is, c.put_terms-b.auto.out)

pub returns : goal.returns
returns c = rw (record_pieces c.args.list.now c.requires.fact_1, overwrite-placed) (put_both (put_both c.put-a.ensures c.put_terms-b.ensures) c.put.ensures).bytes_are
