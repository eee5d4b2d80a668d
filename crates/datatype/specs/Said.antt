-- What an element of a time says as a bound, in the words of the rules ("Types, after decoding the five references").
use Rattle.std.specs.Prelude.{ℕ, ◌≡◌, Bool, true, false, cond, List}
use Rattle.std.proofs.Math.Option.{Option, none}
use Rattle.rules.specs.Basics.{if_some, bytes, same}
use Rattle.rules.specs.Refusal.{Refusal, Outcome, answered, refused, faults_of, first_of}
use Rattle.rules.specs.Markup.{Attribute, Nodes, lookup}
use Rattle.rules.specs.Timestamp.{Moment, read_timestamp}
use Rattle.rules.specs.Invariants.{is_null, child_named, Endpoint, valued as is_valued, infinite, unknown}
use Rattle.timestamp.specs.Moments.{moment_of}
use Rattle.datatype.specs.declared.bounds.Side.{Side}
use Rattle.datatype.specs.declared.bounds.Side.TheVariants.{Low, High}
use Rattle.datatype.specs.declared.said.Said.{Said as CodeSaid}
use Rattle.datatype.specs.declared.said.Said.TheVariants.{Valued, Below, Above, Nothing}

-- a value; that there is no bound below, or none above; or nothing
pub data Said : Type 0 where
  valued : Moment → Said
  below above nothing : Said

abbrev pub said_meant : CodeSaid → Said
said_meant (Valued m) = valued (moment_of m)
said_meant Below = below
said_meant Above = above
said_meant Nothing = nothing

-- what a flavor says
abbrev pub said_flavor : Option (List ℕ) → Said
said_flavor flavor = cond (if_some flavor (same (bytes "NINF")) false) below (cond (if_some flavor (same (bytes "PINF")) false) above nothing)

-- what a timestamp says
abbrev pub said_read : Outcome Moment → Said
said_read (answered m) = valued m
said_read (refused r) = nothing

-- what a value says
abbrev pub said_value : (shift : ℕ) → Option (List ℕ) → Said
said_value shift value = if_some value (λ text. said_read (read_timestamp shift text)) nothing

-- what a value is refused for
abbrev pub value_fault : (shift : ℕ) → Option (List ℕ) → Option Refusal
value_fault shift value = if_some value (λ text. first_of (faults_of (read_timestamp shift text))) none

-- what an element says: if it is null its flavor, else its value
abbrev pub said_by : (shift : ℕ) → List Attribute → Said
said_by shift attrs = cond (is_null attrs) (said_flavor (lookup (bytes "nullFlavor") attrs)) (said_value shift (lookup (bytes "value") attrs))

abbrev pub time_fault : (shift : ℕ) → List Attribute → Option Refusal
time_fault shift attrs = value_fault shift (lookup (bytes "value") attrs)

-- what the first child of a name says
abbrev pub said_named : (shift : ℕ) → (name : List ℕ) → Nodes → Said
said_named shift name kids = if_some (child_named name kids) (said_by shift) nothing

-- what the children of an interval say
abbrev pub BoundsSaid : (shift : ℕ) → Nodes → (low high : CodeSaid) → Type 0
BoundsSaid shift kids l h = (said_meant l ≡ said_named shift (bytes "low") kids) × (said_meant h ≡ said_named shift (bytes "high") kids)

-- what is said, on a side
abbrev pub endpoint_said : Side → Said → Endpoint
endpoint_said side (valued m) = is_valued m
endpoint_said Low below = infinite
endpoint_said High below = unknown
endpoint_said Low above = unknown
endpoint_said High above = infinite
endpoint_said side nothing = unknown

-- it may not stand on a side
abbrev pub wrong_said : Side → Said → Bool
wrong_said side (valued m) = false
wrong_said Low below = false
wrong_said High below = true
wrong_said Low above = true
wrong_said High above = false
wrong_said side nothing = false
