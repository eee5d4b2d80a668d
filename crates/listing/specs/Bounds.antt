-- What the code's bounds and intervals mean, as a record writes them, in the words of the rules ("Sets of times").
use Rattle.std.specs.Prelude.{ℕ, ◌≤◌, ◌≡◌, Bool, List, Option, Some, None}
use Rattle.rules.specs.Refusal.{UNKNOWN_BOUND, Outcome, answered, refused}
use Rattle.rules.specs.Markup.{Attribute, Nodes}
use Rattle.rules.specs.Invariants.{is_closed}
use Rattle.rules.specs.Sets.{Bound as PageBound, Interval as PageInterval}
use Rattle.rules.specs.Listing.{bound_of, interval_of}
use Rattle.interval.specs.declared.Bound.{Bound}
use Rattle.interval.specs.declared.Interval.{Interval}
use Rattle.interval.specs.Meaning.{bound_of as bound_meant, interval_of as interval_meant, Ticked}
use Rattle.element.specs.Tags.{Tells}
use Rattle.element.specs.declared.tag.Tag.{Tag}
use Rattle.datatype.specs.declared.bounds.Side.{Side}
use Rattle.datatype.specs.declared.bounds.Side.TheVariants.{Low, High}
use Rattle.datatype.specs.Bounds.{side_meant}
use Rattle.datatype.specs.Said.{Said, said_named, said_meant}
use Rattle.datatype.specs.declared.said.Said.{Said as CodeSaid}

-- a bound that is not known is refused, and so is an interval
abbrev pub limit_meant : Option Bound → Outcome PageBound
limit_meant (Some b) = answered (bound_meant b)
limit_meant None = refused UNKNOWN_BOUND

abbrev pub written_meant : Option Interval → Outcome PageInterval
written_meant (Some v) = answered (interval_meant v)
written_meant None = refused UNKNOWN_BOUND

-- its ticks are such as sets take
abbrev pub LimitOn : Option Bound → Type 0
LimitOn (Some b) = Ticked b
LimitOn None = Unit {0}

-- both of its ticks are
abbrev pub IntervalOn : Option Interval → Type 0
IntervalOn (Some v) = Ticked v.low × Ticked v.high
IntervalOn None = Unit {0}

-- the bound of an element whose child of a side says this
abbrev pub BoundSaid : Said → Side → (closed : Bool) → Option Bound → Type 0
BoundSaid said side closed r = (shift : ℕ) → shift ≤ 1680 → (attrs : List Attribute) (kids : Nodes)
    → said ≡ said_named shift (side_meant side).child kids → closed ≡ is_closed (side_meant side) attrs → limit_meant r ≡ bound_of shift (side_meant side) attrs kids

-- the interval of the element of a tag whose sides say this
abbrev pub IntervalSaid : List ℕ → Tag → (low high : CodeSaid) → Option Interval → Type 0
IntervalSaid s tag l h r = (shift : ℕ) → shift ≤ 1680 → (attrs : List Attribute) (kids : Nodes) → Tells s attrs tag.places
    → said_meant l ≡ said_named shift (side_meant Low).child kids → said_meant h ≡ said_named shift (side_meant High).child kids → written_meant r ≡ interval_of shift attrs kids
