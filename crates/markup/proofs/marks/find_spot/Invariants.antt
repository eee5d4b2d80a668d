-- `markup::marks::find_spot` meets its contract. The loop's invariant: the places before this one are passed.
use Prim.Native.Nat.{◌-◌, ◌<◌}
use mathlib.Core.Path.{◌≡◌}
use Rattle.markup.specs.Marks.{place_of, Passes}
use Rattle.markup.proofs.marks.find_spot.Given as goal

abbrev pub invariant-loop-tries : goal.invariant-loop-tries
invariant-loop-tries l = (place_of l.h l._tries ≡ l.i) × (l.i < 3_072) × Passes l.h l.table l._tries
