-- `printing::term::put_opening` meets its contract.
use Rattle.printing.specs.Terms.{opening_text}
use Rattle.printing.proofs.term.put_opening.Goals as goal

pub put-requires : goal.put-requires
unfolding opening_text
put-requires c = rw c.in-Low.is at c.requires

pub put-requires-in-High : goal.put-requires-in-High
unfolding opening_text
put-requires-in-High c = rw c.in-High.is at c.requires

pub returns-in-Low : goal.returns-in-Low
unfolding opening_text
returns-in-Low c = rw c.in-Low.is c.put.ensures

pub returns-in-High : goal.returns-in-High
unfolding opening_text
returns-in-High c = rw c.in-High.is c.put-in-High.ensures
