-- `comparison::times::compare_times` meets its contract.
use native.Mathlib.Omega.{arith}
use Rattle.comparison.proofs.Sayings.{said_values}
use Rattle.comparison.proofs.times.compare_times.Goals as goal

pub time_at-first-requires : goal.time_at-first-requires
time_at-first-requires c = c.requires.fact_1.placed 0

pub time_at-second-requires : goal.time_at-second-requires
time_at-second-requires c = c.requires.fact_2.placed 0

pub returns : goal.returns
returns c = λ v w g h.
    let a = (c.time_at-first.ensures _ (g.placed 0 (omega arith))).1 in
    let b = (c.time_at-second.ensures _ (h.placed 0 (omega arith))).1 in
    said_values c.args.shift.minutes v w a b c.compare_said.ensures
