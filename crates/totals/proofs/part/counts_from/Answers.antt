-- `totals::part::counts_from` meets its contract.
use Rattle.std.proofs.Common.{refl, eq-eqb, ne_eqb}
use Rattle.totals.proofs.part.counts_from.Goals as goal

pub returns-then-desk-eq1 : goal.returns-then-desk-eq1
returns-then-desk-eq1 c = rw (eq-eqb c.args.desk 1 c.if-desk-eq1.true) refl

pub returns-else-desk-eq1 : goal.returns-else-desk-eq1
returns-else-desk-eq1 c = rw (ne_eqb c.args.desk 1 c.if-desk-eq1.false) refl
