-- `totals::post::held_with` meets its contract.
use Rattle.std.proofs.Common.{le-ltb, lt-ltb}
use Rattle.totals.proofs.post.held_with.Goals as goal

pub returns-then-at-t : goal.returns-then-at-t
returns-then-at-t c = rw (lt-ltb c.args.at c.args.t.held c.if-at-t.true)

pub returns-else-at-t : goal.returns-else-at-t
returns-else-at-t c = rw (le-ltb c.args.at c.args.t.held c.if-at-t.false)
