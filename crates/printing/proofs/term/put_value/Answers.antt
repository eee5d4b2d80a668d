-- `printing::term::put_value` meets its contract.
use native.Mathlib.Omega.{arith}
use Rattle.writer.proofs.Placing.{put_both}
use Rattle.printing.specs.Terms.{side_of}
use Rattle.printing.proofs.Terms.{value_length}
use Rattle.printing.proofs.term.put_value.Goals as goal

pub put_opening-a-requires : goal.put_opening-a-requires
put_opening-a-requires c = omega (arith, c.requires.fact_2, value_length (side_of c.args.side) c.args.tick)

pub put_timestamp-b-requires : goal.put_timestamp-b-requires
put_timestamp-b-requires c = record {
  fact_1 = c.requires.fact_1;
  fact_2 = omega (arith, c.requires.fact_2, value_length (side_of c.args.side) c.args.tick, c.put_opening-a.ensures.next_is, c.put_opening-a.auto.out);
}

pub put-requires : goal.put-requires
put-requires c = omega (arith, c.requires.fact_2, value_length (side_of c.args.side) c.args.tick, c.put_opening-a.ensures.next_is, c.put_opening-a.auto.out, c.put_timestamp-b.ensures.value, c.put_timestamp-b.auto.out)

pub returns : goal.returns
returns c = put_both (put_both c.put_opening-a.ensures c.put_timestamp-b.ensures.put) c.put.ensures
