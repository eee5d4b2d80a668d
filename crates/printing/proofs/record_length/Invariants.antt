-- `printing::record_length` meets its contract. The loop's invariant: with the terms that are left, it is the record's length.
use Prim.Native.Nat.{◌+◌, ◌-◌, ◌≤◌}
use mathlib.Core.Path.{◌≡◌}
use mathlib.Core.Bool.{true}
use lib.ListN.{length}
use Rattle.rules.specs.Basics.{every}
use Rattle.rules.specs.LentLists.{listed}
use Rattle.rules.specs.Printing.{record_text, is_writable_stretch}
use Rattle.printing.specs.Records.{terms_from}
use Rattle.printing.proofs.Records.{left}
use Rattle.printing.proofs.record_length.Given as goal

abbrev pub invariant-loop-k : goal.invariant-loop-k
invariant-loop-k l = (l.k ≤ l.n) × (every is_writable_stretch (terms_from l.list l.k (l.n - l.k)) ≡ true) × (l.total + length (left l.list l.k l.n) ≡ length (record_text (listed l.list)))
