-- `printing::stamp::put_timestamp` meets its contract.
use native.Mathlib.Omega.{arith}
use Rattle.writer.proofs.Placing.{put_both}
use Rattle.rules.proofs.Dates.{years-end}
use borrow.Author.Rules.{rules}
use Rattle.printing.proofs.stamp.put_timestamp.Goals as goal

pub put_date-a-requires : goal.put_date-a-requires
put_date-a-requires c = record { fact_1 = omega (arith, c.requires.fact_1, years-end); fact_2 = omega (arith, c.requires.fact_2) }

pub returns : goal.returns
returns c = record { value = search rules; put = put_both (put_both c.put_date-a.ensures.put c.put_clock-b.ensures.put) c.put.ensures }
