-- `form::money::read` meets its contract.
use native.Mathlib.Omega.{arith}
use Rattle.form.proofs.Amounting.{amount-none, amount_longer, amount-is, units_small}
use Rattle.form.proofs.money.read.Goals as goal

pub returns-then-n-eq0 : goal.returns-then-n-eq0
returns-then-n-eq0 c = record { small = tt; tells = amount-none c.args.t.now _ c.sign_end-at.ensures _ c.count-n.ensures c.if-n-eq0.true }

pub returns-then-fraction-t : goal.returns-then-fraction-t
returns-then-fraction-t c = record { small = tt; tells = amount_longer c.args.t.now _ c.sign_end-at.ensures _ c.count-n.ensures c.if-n-eq0.false _ c.read_fraction-fraction.ensures c.if-fraction-t.true }

pub overflow_mul-result : goal.overflow_mul-result
overflow_mul-result c = omega (arith, units_small c.args.t.now _ c.sign_end-at.ensures _ c.count-n.ensures _ c.value-units.ensures)

pub overflow_add-result : goal.overflow_add-result
overflow_add-result c = omega (arith, units_small c.args.t.now _ c.sign_end-at.ensures _ c.count-n.ensures _ c.value-units.ensures, c.read_fraction-fraction.ensures.small)

pub returns : goal.returns
returns c = record { small = omega (arith, units_small c.args.t.now _ c.sign_end-at.ensures _ c.count-n.ensures _ c.value-units.ensures, c.read_fraction-fraction.ensures.small); tells = amount-is c.args.t.now _ c.sign_end-at.ensures _ c.count-n.ensures c.if-n-eq0.false _ c.read_fraction-fraction.ensures _ c.value-units.ensures c.if-fraction-t.false }
