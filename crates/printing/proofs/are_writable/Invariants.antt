-- `printing::are_writable` meets its contract. The loop's invariant: all can be written if those that are left can.
use Prim.Native.Nat.{◌-◌, ◌≤◌}
use mathlib.Core.Path.{◌≡◌}
use Rattle.rules.specs.Basics.{every}
use Rattle.rules.specs.LentLists.{listed}
use Rattle.rules.specs.Printing.{is_writable_stretch}
use Rattle.printing.specs.Records.{terms_from}
use Rattle.printing.proofs.are_writable.Given as goal

abbrev pub invariant-loop-k : goal.invariant-loop-k
invariant-loop-k l = (l.k ≤ l.n) × (every is_writable_stretch (terms_from l.list l.k (l.n - l.k)) ≡ every is_writable_stretch (listed l.list))
