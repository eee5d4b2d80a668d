-- `timestamp::form::read_parts` meets its contract. The loop's invariant: the numbers so far, and what is left to read, make up what is read.
use mathlib.Core.Path.{◌≡◌}
use Rattle.timestamp.proofs.Parting.{PartsTo}
use Rattle.timestamp.proofs.form.read_parts.Given as goal

abbrev pub invariant-loop-part : goal.invariant-loop-part
invariant-loop-part l = PartsTo l.s l.p × (l.p.count ≡ l.part)
