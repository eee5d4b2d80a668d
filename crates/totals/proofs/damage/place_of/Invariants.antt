-- `totals::damage::place_of` meets its contract. The loop's invariant: the first k rows are of other currencies.
use Rattle.std.proofs.Common.{◌≡◌, ◌+◌, ◌-◌, ◌≤◌, take, drop}
use Rattle.totals.specs.Tables.{place_of}
use Rattle.totals.proofs.damage.place_of.Given as goal

abbrev pub invariant-loop-k : goal.invariant-loop-k
invariant-loop-k l = (l.k ≤ l.n) × (place_of l.currency (take l.n l.t.rows) ≡ l.k + place_of l.currency (drop l.k (take l.n l.t.rows)))
