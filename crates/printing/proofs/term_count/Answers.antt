-- `printing::term_count` meets its contract.
use mathlib.Core.Path.{sym}
use Rattle.printing.proofs.Records.{count_none, count-some}
use Rattle.printing.proofs.term_count.Goals as goal

pub returns-then-list-eq0 : goal.returns-then-list-eq0
returns-then-list-eq0 c = sym (count_none c.args.list.now c.if-list-eq0.true)

pub returns-else-list-eq0 : goal.returns-else-list-eq0
returns-else-list-eq0 c = sym (count-some c.args.list.now c.if-list-eq0.false)
