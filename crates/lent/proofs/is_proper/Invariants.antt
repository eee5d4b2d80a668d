-- `lent::is_proper` meets its contract. The loop's invariant: what is left, from the k-th row on, decides.
use Rattle.std.proofs.Common.{◌≡◌, ◌*◌, ◌≤◌, length}
use Rattle.lent.proofs.Proper.{Left}
use Rattle.lent.proofs.is_proper.Given as goal

abbrev pub invariant-loop-k : goal.invariant-loop-k
invariant-loop-k l = (l.k ≤ l.n) × (length l.list ≡ 32 * l.n) × Left l.list l.row l.k l.n
