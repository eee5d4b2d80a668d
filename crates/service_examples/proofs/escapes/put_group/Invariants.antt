-- `service_examples::escapes::put_group` meets its contract.
use Rattle.std.proofs.Common.{◌≡◌, ◌-◌, ◌≤◌, length}
use Rattle.service_examples.proofs.escapes.put_group.Given as goal

abbrev pub invariant-loop : goal.invariant-loop
invariant-loop l = (l.n ≤ length l.out) × (length l.out ≡ length l.initial.out)
