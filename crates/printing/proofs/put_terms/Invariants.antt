-- `printing::put_terms` meets its contract. The loop's invariant: with the terms that are left, memory is as it should be.
use Prim.Native.Nat.{◌+◌, ◌-◌, ◌≤◌}
use mathlib.Core.Path.{◌≡◌}
use mathlib.Core.Bool.{true}
use lib.ListN.{length}
use Rattle.rules.specs.Basics.{every}
use Rattle.rules.specs.Printing.{is_writable_stretch}
use Rattle.printing.specs.Records.{terms_from}
use Rattle.writer.specs.Placing.{placed}
use Rattle.printing.proofs.Records.{left}
use Rattle.printing.proofs.put_terms.Given as goal

abbrev pub invariant-loop-k : goal.invariant-loop-k
invariant-loop-k l = (l.k ≤ l.n) × (length l.out ≡ length l.initial.out) × (every is_writable_stretch (terms_from l.list l.k (l.n - l.k)) ≡ true) × (l.next + length (left l.list l.k l.n) ≡ l.at + length (left l.list 0 l.n)) × (placed l.next (left l.list l.k l.n) l.out ≡ placed l.at (left l.list 0 l.n) l.initial.out)
