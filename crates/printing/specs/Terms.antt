-- The bounds of a stretch, as a lent list has their numbers, and the pieces of a term.
use Rattle.std.specs.Prelude.{ℕ, ◌+◌, List, ◌++◌, length, pos}
use Rattle.rules.specs.Basics.{bytes}
use Rattle.rules.specs.Invariants.{Side as PageSide, low, high}
use Rattle.rules.specs.Sets.{Bound as PageBound, unbounded, open_at, closed_at, Interval, ◌upto◌}
use Rattle.rules.specs.Dates.{timestamp_text}
use Rattle.rules.specs.LentLists.{bound_in, stretch_in, signed}
use Rattle.rules.specs.Printing.{flag_text, bound_text}
use Rattle.lent.specs.declared.Row.{Row}
use Rattle.lent.specs.Rows.{row_of}
use Rattle.printing.specs.declared.stretch.Bound.{Bound}
use Rattle.printing.specs.declared.stretch.Bound.TheVariants.{Unbounded, Open, Closed}
use Rattle.printing.specs.declared.stretch.Stretch.{Stretch}
use Rattle.printing.specs.declared.term.Side.{Side}
use Rattle.printing.specs.declared.term.Side.TheVariants.{Low, High}

abbrev pub side_of : Side → PageSide
side_of Low = low
side_of High = high

-- the bound of a kind and a tick, each as its 64 bits
abbrev pub bound_of : (kind tick : ℕ) → PageBound
bound_of kind tick = bound_in (signed kind) (signed tick)

abbrev pub stretch_of : Row → Interval
stretch_of row = stretch_in (row_of row)

-- what the code's bounds and stretches mean
abbrev pub bound_meant : Bound → PageBound
bound_meant Unbounded = unbounded
bound_meant (Open t) = open_at (signed t)
bound_meant (Closed t) = closed_at (signed t)

abbrev pub stretch_meant : Stretch → Interval
stretch_meant s = bound_meant s.low upto bound_meant s.high

-- what stands before the timestamp of a bound
unfoldable pub opening_text : PageSide → List ℕ
opening_text side = bytes "<" ++ side.child ++ bytes " value=\""

-- a bound at a tick
abbrev pub value_text : PageSide → (tick : ℕ) → List ℕ
value_text side t = opening_text side ++ timestamp_text (pos t) ++ bytes "\"/>"

-- the start tag of a term
unfoldable pub tag_text : Interval → List ℕ
tag_text s = bytes "<term xsi:type=\"IVL_TS\"" ++ flag_text low s.low ++ flag_text high s.high ++ bytes ">"

-- the bytes of a bound and of its flag
abbrev pub size_of : PageSide → PageBound → ℕ
size_of side b = length (flag_text side b) + length (bound_text side b)
