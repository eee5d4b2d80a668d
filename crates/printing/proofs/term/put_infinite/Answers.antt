-- `printing::term::put_infinite` meets its contract.
use mathlib.Core.List.{flat_map}
use Rattle.rules.specs.Printing.{bound_text}
use Rattle.printing.proofs.term.put_infinite.Goals as goal

pub put-requires : goal.put-requires
unfolding bound_text flat_map
put-requires c = rw c.in-Low.is at c.requires

pub put-requires-in-High : goal.put-requires-in-High
unfolding bound_text flat_map
put-requires-in-High c = rw c.in-High.is at c.requires

pub returns-in-Low : goal.returns-in-Low
unfolding bound_text flat_map
returns-in-Low c = rw c.in-Low.is c.put.ensures

pub returns-in-High : goal.returns-in-High
unfolding bound_text flat_map
returns-in-High c = rw c.in-High.is c.put-in-High.ensures
