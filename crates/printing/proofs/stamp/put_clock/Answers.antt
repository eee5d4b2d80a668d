-- `printing::stamp::put_clock` meets its contract.
use Rattle.writer.proofs.Placing.{put_both}
use Rattle.printing.proofs.Stamps.{clock_pieces}
use borrow.Author.Rules.{rules}
use Rattle.printing.proofs.stamp.put_clock.Goals as goal

pub returns : goal.returns
returns c = record {
  value = search rules;
  put = rw (clock_pieces c.args.ticks)
      (put_both (put_both (put_both (put_both (put_both c.put_pair-a.ensures.put c.put_pair-b.ensures.put) c.put_pair-c.ensures.put) c.put-d.ensures) c.put_pair-e.ensures.put) c.put_pair.ensures.put);
}
