-- `totals::damage::is_damaged` meets its contract. The loop's invariant: none of the first k rows is bad.
use Rattle.std.proofs.Common.{◌≡◌, ℕ, ◌-◌, ◌<◌, ◌≤◌, false}
use Rattle.totals.specs.Tables.{is_bad}
use Rattle.totals.proofs.damage.is_damaged.Given as goal

abbrev pub invariant-loop-k : goal.invariant-loop-k
invariant-loop-k l = (l.k ≤ l.t.held) × ((j : ℕ) → j < l.k → is_bad l.t.rows j ≡ false)
