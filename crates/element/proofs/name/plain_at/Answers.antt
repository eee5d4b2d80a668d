-- `element::name::plain_at` meets its contract.
use native.Mathlib.Omega.{arith}
use Rattle.element.specs.Plain.{not_plain}
use Rattle.element.proofs.Plain.{plain_if}
use Rattle.element.proofs.name.plain_at.Goals as goal

pub returns-then-at-s : goal.returns-then-at-s
returns-then-at-s c = not_plain

pub returns-in-118 : goal.returns-in-118
returns-in-118 c = plain_if 0 (omega arith) c.plain_if.ensures

pub returns-in-110 : goal.returns-in-110
returns-in-110 c = plain_if 1 (omega arith) c.plain_if-in-110.ensures

pub returns-in-120 : goal.returns-in-120
returns-in-120 c = plain_if 2 (omega arith) c.plain_if-in-120.ensures

pub returns-in-108 : goal.returns-in-108
returns-in-108 c = plain_if 3 (omega arith) c.plain_if-in-108.ensures

pub returns-in-104 : goal.returns-in-104
returns-in-104 c = plain_if 4 (omega arith) c.plain_if-in-104.ensures

pub returns-in-114 : goal.returns-in-114
returns-in-114 c = plain_if 6 (omega arith) c.plain_if-in-114.ensures

pub returns-in-101 : goal.returns-in-101
returns-in-101 c = plain_if 7 (omega arith) c.plain_if-in-101.ensures

pub returns-in-116 : goal.returns-in-116
returns-in-116 c = plain_if 12 (omega arith) c.plain_if-in-116.ensures

pub returns-in-113 : goal.returns-in-113
returns-in-113 c = plain_if 13 (omega arith) c.plain_if-in-113.ensures

pub returns-in_default : goal.returns-in_default
returns-in_default c = not_plain
