-- `timestamp::calendar::march_year` meets its contract.
use native.Mathlib.Omega.{arith}
use borrow.Author.Tests.{le-leb, lt-leb}
use Rattle.timestamp.proofs.calendar.march_year.Goals as goal

pub returns-then-month-le2 : goal.returns-then-month-le2
returns-then-month-le2 c = rw (le-leb c.args.month 2 c.if-month-le2.true)

pub returns-else-month-le2 : goal.returns-else-month-le2
returns-else-month-le2 c = rw (lt-leb c.args.month 2 (omega (arith, c.if-month-le2.false)))
