-- `form::money::sign_end` meets its contract.
use Rattle.form.proofs.Amounting.{sign_end, sign_minus, sign_other}
use Rattle.form.proofs.money.sign_end.Goals as goal

pub returns-then-t-eq0 : goal.returns-then-t-eq0
returns-then-t-eq0 c = sign_end c.args.t.now c.if-t-eq0.true

pub returns-then-t-eq45 : goal.returns-then-t-eq45
returns-then-t-eq45 c = sign_minus c.args.t.now c.if-t-eq0.false c.if-t-eq45.true

pub returns-else-t-eq45 : goal.returns-else-t-eq45
returns-else-t-eq45 c = sign_other c.args.t.now c.if-t-eq0.false c.if-t-eq45.false
