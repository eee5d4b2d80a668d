-- `text::digits::ten_thousandths` meets its contract.
use mathlib.Core.Path.{◌≡◌, sym, ◌∙◌}
use native.Mathlib.Omega.{arith}
use native.Mathlib.Nat.{mul-one}
use Rattle.text.proofs.Numerals.{scaled}
use Rattle.text.proofs.digits.ten_thousandths.Goals as goal

pub overflow_mul-result : goal.overflow_mul-result
overflow_mul-result c = omega (arith, (scaled c.args.value c.args.count 1 c.in-1.is (omega arith) c.requires.fact_3).1)

pub overflow_mul-result-in-2 : goal.overflow_mul-result-in-2
overflow_mul-result-in-2 c = omega (arith, (scaled c.args.value c.args.count 2 c.in-2.is (omega arith) c.requires.fact_3).1)

pub overflow_mul-result-in-3 : goal.overflow_mul-result-in-3
overflow_mul-result-in-3 c = omega (arith, (scaled c.args.value c.args.count 3 c.in-3.is (omega arith) c.requires.fact_3).1)

pub returns-in-1 : goal.returns-in-1
returns-in-1 c = scaled c.args.value c.args.count 1 c.in-1.is (omega arith) c.requires.fact_3

pub returns-in-2 : goal.returns-in-2
returns-in-2 c = scaled c.args.value c.args.count 2 c.in-2.is (omega arith) c.requires.fact_3

pub returns-in-3 : goal.returns-in-3
returns-in-3 c = scaled c.args.value c.args.count 3 c.in-3.is (omega arith) c.requires.fact_3

pub returns-in_default : goal.returns-in_default
returns-in_default c =
    let e : c.args.count ≡ 4 = omega arith in
    let h = scaled c.args.value c.args.count 4 e (omega arith) c.requires.fact_3 in
    (sym (mul-one c.args.value) ∙ h.0, omega arith)
