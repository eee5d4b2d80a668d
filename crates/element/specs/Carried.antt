-- The attributes of a start tag, read one after another, in the words of the rules ("Markup").
use Rattle.std.specs.Prelude.{ℕ, ◌+◌, ◌-◌, ◌≤◌, ◌<◌, ◌≡◌, Bool, true, false, List, length, drop, get_or}
use Rattle.rules.specs.Parsers.{Parser, bad, ok, pure, ◌>>=◌, ◌>>◌, byte, literal}
use Rattle.rules.specs.Markup.{space, name, value, Attribute, attributes, Nodes, end, end_tag, body}
use Rattle.element.specs.Tags.{Tells, count, is_namespace, is_other}
use Rattle.element.specs.declared.tag.Carried.{Carried}
use Rattle.element.specs.declared.tag.Tag.{Tag}

-- the value of an attribute of a name
abbrev pub value_of : List ℕ → Parser Attribute
value_of n = value >>= (λ v. pure (record { name = n; value = v }))

-- the value of an attribute stands at r, if there is one, and its name ends at a position
pub record PastEquals (s : List ℕ) (at r : ℕ) : Type 0 where
  pub low : at ≤ r + 1
  pub high : r < length s
  pub past : (n : List ℕ) (a : Attribute) (left : List ℕ) → (space >> byte 61 >> space >> value_of n) (drop at s) ≡ ok a left
      → (at < r) × (a.name ≡ n) × (value (drop r s) ≡ ok a.value left)

-- the attributes l stand from a position on, and what follows them, past white space, is no name
pub record AttributesTo (s : List ℕ) (at : ℕ) (l : List Attribute) (left : List ℕ) : Type 0 where
  pub fuel : ℕ
  pub reads : attributes fuel (drop at s) ≡ ok l left
  pub all : (space >> name) left ≡ bad

-- r is what a tag carries that has the attributes l
pub record CarriedAs (s : List ℕ) (l : List Attribute) (left : List ℕ) (r : Carried) : Type 0 where
  pub tells : Tells s l r.places
  pub others : r.others ≡ count is_other l
  pub namespaces : r.namespaces ≡ count is_namespace l
  pub ends : left ≡ drop r.end s

-- what r names lies in the text, and they end no earlier than a position
pub record CarriedIn (s : List ℕ) (at : ℕ) (r : Carried) : Type 0 where
  pub placed : (n : ℕ) → get_or r.places n 0 ≤ length s - 1
  pub low : at ≤ r.end
  pub high : r.end ≤ length s

-- the position past a text, if it stands at a position
pub record PastLiteral (s : List ℕ) (at : ℕ) (t : List ℕ) (r : ℕ) : Type 0 where
  pub low : at ≤ r
  pub high : r ≤ length s
  pub past : (u : Unit {0}) (left : List ℕ) → literal t (drop at s) ≡ ok u left → left ≡ drop r s

-- what follows a tag that ends at a position: nothing, or content, which p reads, and the end tag
pub data Closes (s n : List ℕ) (p : Parser Nodes) (at : ℕ) (after : List ℕ) : Nodes → (more : Bool) → Type 0 where
  at_once : after ≡ drop at s → Closes s n p at after end false
  with_content : (kids : Nodes) → (p >>= (λ k. end_tag n >> pure k)) (drop at s) ≡ ok kids after → Closes s n p at after kids true

-- how a tag closes after what it carries: by `>`, and content follows, or by `/>`
pub record Closed (s : List ℕ) (name past : ℕ) (c : Carried) (r : Tag) : Type 0 where
  pub places : r.places ≡ c.places
  pub others : r.others ≡ c.others
  pub namespaces : r.namespaces ≡ c.namespaces
  pub name_is : r.name ≡ name
  pub past_is : r.past ≡ past
  pub low : c.end ≤ r.end
  pub high : r.end ≤ length s
  pub inner : (n : List ℕ) (p : Parser Nodes) (kids : Nodes) (after : List ℕ) → (space >> body n p) (drop c.end s) ≡ ok kids after → Closes s n p r.end after kids r.full
