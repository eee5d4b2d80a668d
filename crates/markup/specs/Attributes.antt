-- The attributes of a tag at a position, in the words of the rules ("Markup").
use Rattle.std.specs.Prelude.{ℕ, ◌+◌, ◌-◌, ◌≤◌, ◌<◌, ◌≡◌, List, [], length, take, drop, Option, Some, None}
use Rattle.std.proofs.Math.Option.{Option as RulesOption, none, some}
use Rattle.rules.specs.Parsers.{Parser, bad, ok, pure, guard, ◌>>=◌, ◌>>◌}
use Rattle.rules.specs.Markup.{Attribute as RulesAttribute, some_space, value, attribute, attributes, lookup, is_distinct}
use Rattle.text.specs.Reads.{Good, Reads}
use Rattle.markup.specs.declared.tag.Attribute.{Attribute}

-- an attribute at a position: its name ends at n, its value stands at q, with the quotes, and ends at e
pub record AttributeTo (s : List ℕ) (at n q e : ℕ) : Type 0 where
  pub name_low : at < n
  pub name_high : n ≤ q
  pub value_low : q < e
  pub high : e ≤ length s
  pub text : List ℕ
  pub quoted : value (drop q s) ≡ ok text (drop e s)
  pub reads : attribute (drop at s) ≡ ok (record { name = take (n - at) (drop at s); value = text }) (drop e s)

pub data PartsAt (s : List ℕ) (at : ℕ) : Option Attribute → Type 0 where
  parts : (n q e : ℕ) → AttributeTo s at n q e → PartsAt s at (Some (record { name = at; name_end = n; value = q; end = e }))
  no_parts : attribute (drop at s) ≡ bad → PartsAt s at None

-- no attribute from a position on, whatever the fuel
abbrev pub Stops : List ℕ → (at : ℕ) → Type 0
Stops s at = (f : ℕ) → attributes f (drop at s) ≡ ok [] (drop at s)

-- the attribute that stands next from a position on, its name at j, after white space
pub data NextAt (s : List ℕ) (at : ℕ) : Option Attribute → Type 0 where
  next_is : (j n q e : ℕ) → Good 1 some_space s at j → AttributeTo s j n q e → NextAt s at (Some (record { name = j; name_end = n; value = q; end = e }))
  no_next : Stops s at → NextAt s at None

-- the attributes that stand from a position on
pub record AttributesAt (s : List ℕ) (at : ℕ) (l : List RulesAttribute) : Type 0 where
  pub fuel : ℕ
  pub enough : length s ≤ at + fuel
  pub after : List ℕ
  pub reads : attributes fuel (drop at s) ≡ ok l after

-- an answer on an attribute: there is none; or its value stands at q, with the quotes, and ends at e
pub data Finds (s : List ℕ) : RulesOption (List ℕ) → Option (ℕ × ℕ) → Type 0 where
  absent : Finds s none None
  present : (q e : ℕ) (v : List ℕ) → q < e → e ≤ length s → value (drop q s) ≡ ok v (drop e s) → Finds s (some v) (Some (q, e))

-- the answer on the attribute of a name, among those that stand from a position on
abbrev pub Answers : List ℕ → (name : List ℕ) → (at : ℕ) → Option (ℕ × ℕ) → Type 0
Answers s name at r = (l : List RulesAttribute) → AttributesAt s at l → Finds s (lookup name l) r

-- attributes of which none occurs twice; `fuel` is at least the bytes left
abbrev pub distinct_attributes : (fuel : ℕ) → Parser (List RulesAttribute)
distinct_attributes f = attributes f >>= (λ l. guard (is_distinct l) >> pure l)

-- the answer on them from a position on, with any fuel that is enough
abbrev pub ReadsDistinct : List ℕ → (at : ℕ) → Option ℕ → Type 0
ReadsDistinct s at r = (f : ℕ) → length s ≤ at + f → Reads 0 (distinct_attributes f) s at r

-- what a table tells of them
pub data ToldAt (s : List ℕ) (at : ℕ) : Option (Option ℕ) → Type 0 where
  sure : (r : Option ℕ) → ReadsDistinct s at r → ToldAt s at (Some r)
  unsure : ToldAt s at None
