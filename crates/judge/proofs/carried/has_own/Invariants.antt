-- `judge::carried::has_own` meets its contract. The loop's invariant: an answer from this number on is an answer.
use Prim.Native.Nat.{ℕ, ◌-◌, ◌≤◌}
use mathlib.Core.Path.{◌≡◌}
use mathlib.Core.List.{List}
use Rattle.rules.specs.Basics.{exists}
use Rattle.rules.specs.Markup.{Attribute}
use Rattle.rules.specs.Types.{line_of}
use Rattle.rules.specs.Judge.{carries}
use Rattle.element.specs.Names.{known}
use Rattle.element.specs.Tags.{Tells}
use Rattle.datatype.specs.Meaning.{kind_meant}
use Rattle.judge.proofs.OwnColumns.{own_from}
use Rattle.judge.proofs.carried.has_own.Given as goal

abbrev pub invariant-loop-n : goal.invariant-loop-n
invariant-loop-n l = (l.n ≤ known)
    × ((s : List ℕ) (attrs : List Attribute) → Tells s attrs l.fn.tag.places → own_from (kind_meant l.kind) attrs l.n (known - l.n) ≡ exists (carries attrs) (line_of (kind_meant l.kind)).columns)
