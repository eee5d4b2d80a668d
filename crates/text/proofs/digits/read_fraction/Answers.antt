-- `text::digits::read_fraction` meets its contract.
use Prim.Native.Nat.{◌+◌, ◌-◌, ◌*◌, ◌^◌}
use mathlib.Core.Path.{◌∙◌, ap}
use native.Mathlib.Omega.{arith}
use Rattle.text.proofs.Numerals.{none-at-end, no_byte, byte_at, no_point, no_digit, no_digit_counted, fraction-none, fraction_digits, decimal-first}
use Rattle.text.proofs.digits.read_fraction.Goals as goal

pub returns-then-s-at : goal.returns-then-s-at
returns-then-s-at c = fraction-none _ _ c.requires (no_point c.args.s.now c.args.at (none-at-end _ c.args.s.now c.args.at c.if-s-at.true))

pub returns-then-s-at-ne46 : goal.returns-then-s-at-ne46
returns-then-s-at-ne46 c = fraction-none _ _ c.requires (no_point c.args.s.now c.args.at (no_byte 46 c.args.s.now c.args.at c.if-s-at.false c.if-s-at-ne46.true))

pub returns-then-n-eq0 : goal.returns-then-n-eq0
returns-then-n-eq0 c = fraction-none _ _ c.requires (no_digit c.args.s.now c.args.at (byte_at 46 c.args.s.now c.args.at c.if-s-at.false c.if-s-at-ne46.false) (no_digit_counted c.args.s.now (c.args.at + 1) 4 c.count-n.result c.count-n.ensures c.if-n-eq0.true (omega arith)))

pub value-requires : goal.value-requires
value-requires c = record { fact_1 = omega (arith, c.count-n.ensures.few); fact_2 = c.count-n.ensures.high; fact_3 = c.count-n.ensures.digits }

pub ten_thousandths-requires : goal.ten_thousandths-requires
ten_thousandths-requires c = record { fact_1 = omega (arith, c.if-n-eq0.false); fact_2 = c.count-n.ensures.few; fact_3 = rw c.value.ensures (decimal-first c.args.s.now (c.args.at + 1) c.count-n.result c.count-n.ensures.high c.count-n.ensures.digits c.count-n.result (omega arith)) }

pub returns : goal.returns
returns c =
    fraction_digits c.args.s.now c.args.at c.count-n.result _ (byte_at 46 c.args.s.now c.args.at c.if-s-at.false c.if-s-at-ne46.false) c.count-n.ensures (omega (arith, c.if-n-eq0.false))
    (c.ten_thousandths.ensures.0 ∙ ap (λ v. v * 10 ^ (4 - c.count-n.result)) c.value.ensures) c.ten_thousandths.ensures.1
