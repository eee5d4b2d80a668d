-- `printing::stamp::put_date` meets its contract.
use native.Mathlib.Omega.{arith}
use Rattle.writer.proofs.Placing.{put_both}
use Rattle.printing.proofs.Stamps.{date_pieces, date-small}
use borrow.Author.Rules.{rules}
use Rattle.printing.proofs.stamp.put_date.Goals as goal

pub put_pair-a-requires : goal.put_pair-a-requires
put_pair-a-requires c = let s = date-small c.args.days c.requires.fact_1 in rw c.date_of-d.ensures (record { fact_1 = omega (arith, c.requires.fact_2); fact_2 = omega (arith, s.0) })

pub put_pair-c-requires : goal.put_pair-c-requires
put_pair-c-requires c = let s = date-small c.args.days c.requires.fact_1 in record { fact_1 = search rules; fact_2 = rw c.date_of-d.ensures s.1 }

pub put_pair-requires : goal.put_pair-requires
put_pair-requires c = let s = date-small c.args.days c.requires.fact_1 in record { fact_1 = search rules; fact_2 = rw c.date_of-d.ensures s.2 }

pub returns : goal.returns
returns c = record {
  value = search rules;
  put = rw (date_pieces c.args.days c.date_of-d.result c.date_of-d.ensures)
      (put_both (put_both (put_both c.put_pair-a.ensures.put c.put_pair-b.ensures.put) c.put_pair-c.ensures.put) c.put_pair.ensures.put);
}
