-- `timestamp::fourteen_moment` meets its contract.
use Rattle.timestamp.proofs.Ranges.{date-range, clock-range}
use Rattle.timestamp.specs.Moments.{unit_ticks, start_written}
use Rattle.timestamp.specs.Written.{fourteen_written}
use native.Mathlib.Omega.{arith}
use mathlib.Core.Path.{◌≡◌}
use Prim.Native.Nat.{◌+◌, ◌*◌}
use Rattle.timestamp.proofs.fourteen_moment.Goals as goal

pub of_date-date-requires : goal.of_date-date-requires
of_date-date-requires c = date-range _ _ _ c.requires.date

pub of_clock-clock-requires : goal.of_clock-clock-requires
of_clock-clock-requires c = let h = clock-range _ _ _ c.requires.clock in (h.0, (h.1, (h.2, c.requires.fraction)))

pub overflow_add-start : goal.overflow_add-start
overflow_add-start c = omega (arith, c.of_date-date.ensures.1, c.of_clock-clock.ensures.1)

pub overflow_mul-start : goal.overflow_mul-start
overflow_mul-start c = omega (arith, c.requires.agreed)

pub overflow_add-start-2 : goal.overflow_add-start-2
overflow_add-start-2 c = omega (arith, c.requires.agreed, c.of_date-date.ensures.1, c.of_clock-clock.ensures.1)

pub overflow_add-result : goal.overflow_add-result
overflow_add-result c = omega (arith, c.requires.agreed, c.of_date-date.ensures.1, c.of_clock-clock.ensures.1)

pub returns : goal.returns
unfolding unit_ticks
returns c = let s : c.of_date-date.result.0 + c.of_clock-clock.result.0 + c.args.shift.minutes * 600_000 ≡ start_written c.args.shift.minutes (fourteen_written c.args.n) = rw (c.of_date-date.ensures.0, c.of_clock-clock.ensures.0) (omega arith) in λ i. record { start = s i; precision = 14; next = s i + 10_000 }
