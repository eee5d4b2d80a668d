-- `judge::carried::attributes_fault` meets its contract. The loop's invariant: so far the fault is the first of those of names that are not known and of
-- those of the numbers before.
use Prim.Native.Nat.{◌≤◌}
use mathlib.Core.Path.{◌≡◌}
use mathlib.Core.List.{List}
use Rattle.rules.specs.Refusal.{earlier}
use Rattle.rules.specs.Markup.{Attribute}
use Rattle.rules.specs.Types.{TS}
use Rattle.rules.specs.Judge.{attribute_faults}
use Rattle.refusal.specs.Meaning.{fault_of}
use Rattle.element.specs.Names.{known}
use Rattle.element.specs.Tags.{Tells}
use Rattle.datatype.specs.Meaning.{kind_meant}
use Rattle.datatype.specs.Tables.{standing_meant}
use Rattle.datatype.specs.Said.{time_fault}
use Rattle.judge.proofs.ByNumber.{below}
use Rattle.judge.proofs.carried.attributes_fault.Given as goal

abbrev pub invariant-loop-n : goal.invariant-loop-n
invariant-loop-n l = (l.n ≤ known)
    × ((attrs : List Attribute) → Tells l.s attrs l.fn.tag.places → (kind_meant l.kind ≡ TS → fault_of l.time ≡ time_fault l.shift.minutes attrs)
    → fault_of l.so_far ≡ earlier (fault_of l.initial.so_far) (below (attribute_faults l.shift.minutes (standing_meant l.standing) (kind_meant l.kind)) attrs l.n))
