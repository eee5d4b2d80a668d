use Rattle.rules.specs.Refusal.{first_of}
use Rattle.refusal.proofs.refused_if.Goals as goal

pub returns-then-so : goal.returns-then-so
unfolding first_of
returns-then-so c = rw c.if-so.true

pub returns-else-so : goal.returns-else-so
unfolding first_of
returns-else-so c = rw c.if-so.false
