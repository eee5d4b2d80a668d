-- What the code knows of the set that an element writes, in the words of the rules ("Sets of times").
use Rattle.std.specs.Prelude.{ℕ, ◌≤◌, min, ◌≡◌, true, false, List, length, drop}
use Rattle.std.proofs.Math.Option.{Option, none, some}
use Rattle.rules.specs.Refusal.{Refusal, Outcome, answered, refused, ◌and_then◌}
use Rattle.rules.specs.Markup.{Attribute, Element}
use Rattle.rules.specs.Types.{IVL_TS, has_type}
use Rattle.rules.specs.Sets.{Place, Op as PageOp, Interval as PageInterval, Expression, interval, combine, meant, intervals, is_in}
use Rattle.rules.specs.Listing.{operation_of, set_of}
use Rattle.interval.specs.declared.Op.TheVariants.{Union, Intersection, Difference}
use Rattle.interval.specs.Meaning.{op_of, stretches_of, Canonical}
use Rattle.element.specs.Tags.{TagOf}
use Rattle.element.specs.declared.tag.Tag.{Tag}
use Rattle.datatype.specs.declared.kind.Kind.{Kind}
use Rattle.datatype.specs.declared.kind.Kind.TheVariants.{Ts, IvlTs, QsuTs, QsiTs, QsdTs, Mo, Ii, Cd, En, DisplayName, Part}
use Rattle.listing.specs.declared.set.Shape.{Shape}
use Rattle.listing.specs.declared.set.Shape.TheVariants.{Single, Members, Other}
use Rattle.listing.specs.declared.set.Evaluated.{Evaluated}

-- what an element of a kind writes
abbrev pub shape_of : Kind → Shape
shape_of Ts = Other
shape_of IvlTs = Single
shape_of QsuTs = Members Union
shape_of QsiTs = Members Intersection
shape_of QsdTs = Members Difference
shape_of Mo = Other
shape_of Ii = Other
shape_of Cd = Other
shape_of En = Other
shape_of DisplayName = Other
shape_of Part = Other

-- what an element of these attributes writes
abbrev pub WritesAs : List Attribute → Shape → Type 0
WritesAs attrs Single = has_type attrs IVL_TS ≡ true
WritesAs attrs (Members op) = (has_type attrs IVL_TS ≡ false) × (operation_of attrs ≡ some (op_of op))
WritesAs attrs Other = (has_type attrs IVL_TS ≡ false) × (operation_of attrs ≡ none)

-- a set as it may be put together with another, whatever it was read from
pub record Formed (r : Evaluated) : Type 0 where
  pub canonical : Canonical r.set
  pub short : r.set.count ≤ r.count
  pub most : r.count ≤ 33

-- it is the set x, with as many intervals written, 33 for more than 32, and, up to 32, the places that x means
pub record IsSet (x : Expression) (r : Evaluated) : Type 0 where
  pub known : r.known ≡ true
  pub count : r.count ≡ min 33 (length (intervals x))
  pub places : r.count ≤ 32 → (y : Place) → is_in (stretches_of r.set) y ≡ meant x y

-- what an answer says of a set: it is known, or it is not
pub data Says : Outcome Expression → Evaluated → Type 0 where
  is_set : {x : Expression} {r : Evaluated} → IsSet x r → Says (answered x) r
  is_unknown : {q : Refusal} {r : Evaluated} → r.known ≡ false → Says (refused q) r

-- the set of the members so far: there is none yet, or it is x
pub data SoFar : Option Expression → Evaluated → Type 0 where
  none_yet : {r : Evaluated} → r.known ≡ false → r.count ≡ 0 → SoFar none r
  so_far : {x : Expression} {r : Evaluated} → IsSet x r → SoFar (some x) r

-- it, put together with the next set
abbrev pub put : PageOp → Option Expression → Expression → Expression
put op none y = y
put op (some x) y = combine op x y

-- the set of an interval
abbrev pub expressed : Outcome PageInterval → Outcome Expression
expressed o = o and_then λ i. answered (interval i)

-- the answer on the element of a tag
abbrev pub SaysElement : List ℕ → Tag → (depth shift : ℕ) → Evaluated → Type 0
SaysElement s t depth shift r = (v : Element) (after : List ℕ) → TagOf s depth v after t → Says (set_of shift v) r × (r.known ≡ true → after ≡ drop r.end s)
