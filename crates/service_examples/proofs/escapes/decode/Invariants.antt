-- `service_examples::escapes::decode` meets its contract.
use Rattle.std.proofs.Common.{◌≡◌, ◌-◌, ◌≤◌, length}
use Rattle.service_examples.proofs.escapes.decode.Given as goal

abbrev pub invariant-loop-part : goal.invariant-loop-part
invariant-loop-part l = (l.n ≤ length l.out) × (length l.out ≡ length l.initial.out)
