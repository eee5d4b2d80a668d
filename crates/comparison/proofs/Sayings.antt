-- What two elements say, compared.
use Prim.Native.Nat.{ℕ}
use mathlib.Core.Path.{◌≡◌, ◌∙◌}
use mathlib.Core.Bool.{Bool, true}
use Rattle.rules.specs.Basics.{bytes}
use Rattle.rules.specs.Markup.{Element, lookup}
use Rattle.rules.specs.Comparison.{Answer, same_attribute, compare_endpoints, compare_times, compare_sides}
use Rattle.datatype.specs.Bounds.{side_meant}
use Rattle.datatype.specs.Said.{Said, said_value, said_named, endpoint_said}
use Rattle.datatype.specs.declared.bounds.Side.{Side}
use Rattle.datatype.specs.declared.bounds.Side.TheVariants.{Low}
use Rattle.datatype.proofs.Sayings.{by_value, by_child}

-- the values of two elements
pub said_values : (shift : ℕ) (v w : Element) {a b : Said} {r : Answer} → a ≡ said_value shift (lookup (bytes "value") v.attrs) → b ≡ said_value shift (lookup (bytes "value") w.attrs)
    → r ≡ compare_endpoints true (endpoint_said Low a) (endpoint_said Low b) → r ≡ compare_times shift v w
said_values shift v w e f h = h ∙ rw (e, f, ← by_value shift Low (lookup (bytes "value") v.attrs), ← by_value shift Low (lookup (bytes "value") w.attrs))

-- a side of two intervals
pub said_sides : (shift : ℕ) (side : Side) (v w : Element) {flags : Bool} {a b : Said} {r : Answer} → flags ≡ same_attribute (side_meant side).flag v.attrs w.attrs
    → a ≡ said_named shift (side_meant side).child v.kids → b ≡ said_named shift (side_meant side).child w.kids
    → r ≡ compare_endpoints flags (endpoint_said side a) (endpoint_said side b) → r ≡ compare_sides (side_meant side) shift v w
said_sides shift side v w z e f h = h ∙ rw (z, e, f, ← (by_child shift side v.kids).0, ← (by_child shift side w.kids).0)
