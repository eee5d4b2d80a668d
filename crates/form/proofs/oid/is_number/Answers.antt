-- `form::oid::is_number` meets its contract.
use Rattle.form.proofs.Oids.{number-none, number-other, number-one, number_more}
use Rattle.form.proofs.oid.is_number.Goals as goal

pub returns-then-n-eq0 : goal.returns-then-n-eq0
returns-then-n-eq0 c = number-none c.args.n.now c.if-n-eq0.true

pub returns-then-count-n : goal.returns-then-count-n
returns-then-count-n c = number-other c.args.n.now _ c.count.ensures c.if-count-n.true

pub returns-then-n-eq1 : goal.returns-then-n-eq1
returns-then-n-eq1 c = number-one c.args.n.now _ c.count.ensures c.if-count-n.false c.if-n-eq1.true

pub returns : goal.returns
returns c = number_more c.args.n.now _ c.count.ensures c.if-count-n.false c.if-n-eq0.false c.if-n-eq1.false
