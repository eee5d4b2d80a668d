-- `totals::part::is_faulty` meets its contract.
use Rattle.totals.proofs.Shared.{faulty-many, faulty-is}
use Rattle.totals.proofs.part.is_faulty.Goals as goal

pub returns-then-numbers-gt-ALL_ROWS : goal.returns-then-numbers-gt-ALL_ROWS
returns-then-numbers-gt-ALL_ROWS c = faulty-many c.args.numbers.now c.if-numbers-gt-ALL_ROWS.true

pub part-requires : goal.part-requires
part-requires c = record { fact_1 = c.requires; fact_2 = c.if-numbers-gt-ALL_ROWS.false }

pub part-requires-2 : goal.part-requires-2
part-requires-2 c = record { fact_1 = c.requires; fact_2 = c.if-numbers-gt-ALL_ROWS.false }

pub has_stray-requires : goal.has_stray-requires
has_stray-requires c = c.if-numbers-gt-ALL_ROWS.false

pub returns : goal.returns
returns c = faulty-is c.args.numbers.now c.if-numbers-gt-ALL_ROWS.false c.part.result c.part-2.result c.part.ensures c.part-2.ensures c.is_damaged.ensures c.is_damaged-2.ensures c.has_stray.ensures
