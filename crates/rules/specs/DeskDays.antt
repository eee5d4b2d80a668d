-- 02-change-requests.md, A7: a call of either desk, or under another number.
use Rattle.std.specs.Prelude.{ℕ, List}
use Rattle.rules.specs.TotalDays.{Call}

-- what a desk may call for: a start of its day, a record, or a report in memory that it lends
pub data Ask : Type 0 where
  start : Ask
  add : Call → Ask
  report : (lent : List ℕ) → Ask

-- a call under any number, that of a desk or another
pub record DeskCall : Type 0 where
  pub desk : ℕ
  pub ask : Ask
