-- `interval_bench::operation` meets its contract.
use mathlib.Core.Path.{sym, ap}
use Rattle.interval_bench.specs.Counts.{operation_by}
use Rattle.interval_bench.proofs.Joining.{else-difference}
use Rattle.std.proofs.Common.{arith}
use Rattle.interval_bench.proofs.operation.Goals as goal

pub returns-in-0 : goal.returns-in-0
returns-in-0 c = ap operation_by (sym c.in-0.is)

pub returns-in-1 : goal.returns-in-1
returns-in-1 c = ap operation_by (sym c.in-1.is)

pub returns-in_default : goal.returns-in_default
returns-in_default c = else-difference _ (omega arith) (omega arith)
