-- 01-scope.md, "Sets of times", and the user's demand on lists: what listing a set of times promises, for every record, agreed offset
-- and lent list. The law `listing_promise` says that it holds.
use Rattle.std.specs.Prelude.{ℕ, ◌*◌, ◌/◌, ◌%◌, ◌^◌, ◌≤◌, ◌<◌, ◌≡◌, ◌↔◌, Bool, true, false, not, ◌&&◌, ◌||◌, cond, ltb, length, take, drop, ℤ, pos, negsuc}
use mathlib.Core.List.{List, [], ◌∷◌, flat_map, Memᴰ}
use Rattle.std.proofs.Math.Option.{some}
use Rattle.rules.specs.Basics.{is_some, if_some, exists, every}
use Rattle.rules.specs.Refusal.{Refusal, TYPE, UNKNOWN_BOUND, TOO_MANY, NO_ROOM, number, rank, first_of, Outcome, answered, refused, faults_in}
use Rattle.rules.specs.Markup.{Attribute, Nodes, end, node, Element}
use Rattle.rules.specs.Invariants.{is_null, low, high, Endpoint, valued, infinite, unknown, endpoint_of}
use Rattle.rules.specs.Types.{IVL_TS, member_types, has_type, type_among}
use Rattle.rules.specs.Check.{shift_by, element_of, check}
use Rattle.rules.specs.Sets.{Place, Interval, holds, Op, union, intersection, difference, Expression, meant, intervals, IsStretch, AreStretches}
use Rattle.rules.specs.Listing.{interval_of, operation_of, set_of, intervals_written, unlisted, list_numbers}
use Rattle.rules.specs.Services.{eight_bytes, room_of}

abbrev pub is_unknown : Endpoint → Bool
is_unknown (valued m) = false
is_unknown infinite = false
is_unknown unknown = true

-- a set or interval that is null, or an interval with a bound that is missing or null without being unbounded
abbrev pub is_unclear : (shift : ℕ) → List Attribute → Nodes → Bool
is_unclear shift attrs kids =
    is_some (type_among member_types attrs) && is_null attrs
    || has_type attrs IVL_TS && (is_unknown (endpoint_of shift low kids) || is_unknown (endpoint_of shift high kids))

-- one of these elements is, or one inside them
unfoldable pub has_unclear : (shift : ℕ) → Nodes → Bool
has_unclear shift end = false
has_unclear shift (node n attrs kids rest) = is_unclear shift attrs kids || has_unclear shift kids || has_unclear shift rest

-- no set or interval of the record is null, and each bound is known or unbounded
abbrev pub is_clear : (shift : ℕ) → Element → Bool
is_clear shift e = not (has_unclear shift (node e.name e.attrs e.kids end))

-- the record's type is IVL_TS or a set type
abbrev pub is_listed : Element → Bool
is_listed e = is_some (type_among member_types e.attrs)

-- in some of the members, in every one, in the first but in none after it
abbrev pub together : Op → List Bool → Bool
together union bs = exists (λ b. b) bs
together intersection bs = every (λ b. b) bs
together difference [] = false
together difference (b ∷ bs) = b && not (exists (λ c. c) bs)

abbrev pub is_within : Outcome Interval → Place → Bool
is_within (answered v) x = holds v x
is_within (refused r) x = false

-- whether an element of these attributes means a place: as the interval that it writes, or as a set of members of which `members` says it
abbrev pub means_place : (shift : ℕ) → Place → List Attribute → Nodes → (members : List Bool) → Bool
means_place shift x attrs kids members =
    cond (has_type attrs IVL_TS) (is_within (interval_of shift attrs kids) x) (if_some (operation_of attrs) (λ o. together o members) false)

-- the same of each of these elements
unfoldable pub mean_place : (shift : ℕ) → Place → Nodes → List Bool
mean_place shift x end = []
mean_place shift x (node n attrs kids rest) = means_place shift x attrs kids (mean_place shift x kids) ∷ mean_place shift x rest

-- the places that a record means, set within set
abbrev pub is_meant : (shift : ℕ) → Element → Place → Bool
is_meant shift e x = means_place shift x e.attrs e.kids (mean_place shift x e.kids)

-- a set of times that passes the rules under the offset agreed: one interval, or up to 32 under unions, intersections and
-- differences, nested too, no set or interval null, each bound known or unbounded
pub record IsSetOfTimes (offset : ℤ) (record' : List ℕ) (e : Element) : Type 0 where
  pub accepted : check offset record' ≡ answered e
  pub listed : is_listed e ≡ true
  pub clear : is_clear (shift_by offset) e ≡ true
  pub few : intervals_written e ≤ 32

-- an answer: its number in bits 0 to 7, and its count in those above
abbrev pub number_in : ℕ → ℕ
number_in answer = answer % 2 ^ 8

abbrev pub count_in : ℕ → ℕ
count_in answer = answer / 2 ^ 8

-- a number that eight bytes hold, signed
abbrev pub fits : ℤ → Bool
fits (pos n) = ltb n (2 ^ 63)
fits (negsuc n) = ltb n (2 ^ 63)

-- the answer to a record, and the lent list before and after
module _ (offset : ℤ) (record' : List ℕ) (answer : ℕ) (before after : List ℕ) where
  -- a refusal hands back its number and no count, and the list keeps its bytes
  pub record Refuses (r : Refusal) : Type 0 where
    pub number_given : number_in answer ≡ number r
    pub no_count : count_in answer ≡ 0
    pub unchanged : after ≡ before

  -- the count returned is the number of the stretches; the list begins with them, four numbers each and eight bytes a number, all of
  -- which fit; nothing else is written
  pub record Lists (ss : List Interval) : Type 0 where
    pub number_given : number_in answer ≡ 0
    pub count : count_in answer ≡ length ss
    pub begins : take (32 * length ss) after ≡ flat_map eight_bytes (list_numbers ss)
    pub fit : every fits (list_numbers ss) ≡ true
    pub unchanged : drop (32 * length ss) after ≡ drop (32 * length ss) before
    pub same_length : length after ≡ length before

  -- what is promised of a set of times, by the record's element e
  pub record PromiseOfSet (e : Element) : Type 0 where
    -- the set that the record writes, of the intervals written, and the times meant
    pub set : Expression
    pub written : set_of (shift_by offset) e ≡ answered set
    pub as_many : length (intervals set) ≡ intervals_written e
    pub meaning : (x : Place) → meant set x ≡ is_meant (shift_by offset) e x
    -- its stretches: each is unbroken, holds only times meant and can't be made longer; each stands once, earliest first; a time is in
    -- some stretch exactly when it is meant
    pub stretches : List Interval
    pub are_stretches : AreStretches (meant set) stretches
    -- every stretch of the set is among them, and no other list is like this
    pub every_one : (s : Interval) → IsStretch (meant set) s → Memᴰ s stretches
    pub no_other : (ss : List Interval) → AreStretches (meant set) ss → ss ≡ stretches
    -- there are never more stretches than intervals written
    pub at_most : length stretches ≤ intervals_written e
    -- NO ROOM is given exactly if the set has more stretches than the lent list can hold
    pub no_room : Refuses NO_ROOM ↔ (room_of before < length stretches)
    -- otherwise the list begins with every one of them
    pub room : length stretches ≤ room_of before → Lists stretches

  -- the whole promise
  pub record ListingPromise : Type 0 where
    -- a set of times is listed, or gives NO ROOM
    pub sets : (e : Element) → IsSetOfTimes offset record' e → PromiseOfSet e
    -- any other record is refused, for a reason that stands before it on the ladder
    pub others : ((e : Element) → IsSetOfTimes offset record' e → ⊥) → (r : Refusal) × Refuses r × (rank r < rank NO_ROOM)
    -- a record that fails the check is refused by the same fault, or by TYPE if that is earlier and its type is not listed
    pub faulty : (r q : Refusal) → check offset record' ≡ refused r → first_of (r ∷ faults_in unlisted (element_of record')) ≡ some q → Refuses q
    -- an accepted record of a type that is not listed is TYPE
    pub other_type : (e : Element) → check offset record' ≡ answered e → is_listed e ≡ false → Refuses TYPE
    -- UNKNOWN BOUND is given exactly if a set or interval is null, or a bound is missing or null without being unbounded
    pub unknown_bound : Refuses UNKNOWN_BOUND ↔ (e : Element) × (check offset record' ≡ answered e) × (is_listed e ≡ true) × (is_clear (shift_by offset) e ≡ false)
    -- TOO MANY is given exactly if, without that, there are over 32 intervals
    pub too_many : Refuses TOO_MANY
        ↔ (e : Element) × (check offset record' ≡ answered e) × (is_listed e ≡ true) × (is_clear (shift_by offset) e ≡ true) × (32 < intervals_written e)
