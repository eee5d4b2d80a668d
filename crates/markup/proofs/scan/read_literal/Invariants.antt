-- `markup::scan::read_literal` meets its contract. The loop's invariant: an answer on what is left of the bytes is an answer on all of them.
use Rattle.std.specs.Prelude.{Option}
use Prim.Native.Nat.{ℕ, ◌+◌, ◌-◌, ◌≤◌}
use lib.ListN.{length, drop}
use Rattle.rules.specs.Parsers.{literal}
use Rattle.text.specs.Reads.{Reads}
use Rattle.markup.proofs.scan.read_literal.Given as goal

abbrev pub invariant-loop-b : goal.invariant-loop-b
invariant-loop-b l = (l.end ≤ length l.s) × ((k : ℕ) (r : Option ℕ) → Reads k (literal (drop l.b-index l.t)) l.s l.end r → Reads (l.b-index + k) (literal l.t) l.s l.at r)
