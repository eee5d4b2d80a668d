-- `printing::term::put_flag` meets its contract.
use native.Mathlib.Omega.{arith}
use mathlib.Core.List.{flat_map}
use Rattle.rules.specs.Printing.{flag_text}
use Rattle.writer.proofs.Placing.{put-none}
use Rattle.printing.proofs.term.put_flag.Goals as goal

pub put-requires : goal.put-requires
unfolding flag_text flat_map
put-requires c = rw (c.in-Low.is, c.in-Open.is) at c.requires

pub put-requires-in-High : goal.put-requires-in-High
unfolding flag_text flat_map
put-requires-in-High c = rw (c.in-High.is, c.in-Open.is) at c.requires

pub put-requires-in-Low-side : goal.put-requires-in-Low-side
unfolding flag_text flat_map
put-requires-in-Low-side c = rw (c.in-Low-side.is, c.in-Closed.is) at c.requires

pub put-requires-in-High-side : goal.put-requires-in-High-side
unfolding flag_text flat_map
put-requires-in-High-side c = rw (c.in-High-side.is, c.in-Closed.is) at c.requires

pub returns-in-Unbounded : goal.returns-in-Unbounded
unfolding flag_text flat_map
returns-in-Unbounded c = rw c.in-Unbounded.is (put-none c.args.at c.args.out.now (omega (arith, c.requires)))

pub returns-in-Low : goal.returns-in-Low
unfolding flag_text flat_map
returns-in-Low c = rw (c.in-Low.is, c.in-Open.is) c.put.ensures

pub returns-in-High : goal.returns-in-High
unfolding flag_text flat_map
returns-in-High c = rw (c.in-High.is, c.in-Open.is) c.put-in-High.ensures

pub returns-in-Low-side : goal.returns-in-Low-side
unfolding flag_text flat_map
returns-in-Low-side c = rw (c.in-Low-side.is, c.in-Closed.is) c.put-in-Low-side.ensures

pub returns-in-High-side : goal.returns-in-High-side
unfolding flag_text flat_map
returns-in-High-side c = rw (c.in-High-side.is, c.in-Closed.is) c.put-in-High-side.ensures
