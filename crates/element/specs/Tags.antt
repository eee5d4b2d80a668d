-- A start tag, and what stands from it on, in the words of the rules ("Markup").
use Rattle.std.specs.Prelude.{ℕ, suc, ◌+◌, ◌-◌, ◌≤◌, ◌<◌, ◌≡◌, Bool, true, false, not, ◌||◌, cond, List, [], ◌∷◌, length, take, drop, get_or}
use Rattle.std.proofs.Math.Option.{Option, none, some}
use Rattle.rules.specs.Basics.{bytes, begins}
use Rattle.rules.specs.Parsers.{Parser, ok, pure, ◌>>=◌, ◌>>◌}
use Rattle.rules.specs.Markup.{Attribute, lookup, is_distinct, Nodes, end, Element, value, end_tag, element, content}
use Rattle.element.specs.Names.{known, name_at, is_known}
use Rattle.element.specs.declared.tag.Tag.{Tag}

-- the element v stands at a position, where so many may be open at once, and the text goes on after it
pub record ElementTo (s : List ℕ) (at depth : ℕ) (v : Element) (after : List ℕ) : Type 0 where
  pub fuel : ℕ
  pub enough : length s ≤ at + fuel
  pub reads : element fuel depth (drop at s) ≡ ok v after

-- the content of an element of a name, and its end tag
abbrev pub closed : List ℕ → (fuel depth : ℕ) → Parser Nodes
closed name f d = content f d >>= (λ kids. end_tag name >> pure kids)

-- the elements l stand side by side from a position on, then the end tag of a name, and the text goes on after it
pub record RowTo (s name : List ℕ) (at depth : ℕ) (l : Nodes) (after : List ℕ) : Type 0 where
  pub fuel : ℕ
  pub enough : length s < at + fuel
  pub reads : closed name fuel depth (drop at s) ≡ ok l after

-- where the value of an attribute stands, with the quotes; 0 if there is none
pub data Place (s : List ℕ) : Option (List ℕ) → ℕ → Type 0 where
  nowhere : Place s none 0
  stands : (q e : ℕ) (v : List ℕ) → 0 < q → q < e → e ≤ length s → value (drop q s) ≡ ok v (drop e s) → Place s (some v) q

-- places say of each known name what attributes do
pub record Tells (s : List ℕ) (l : List Attribute) (places : List ℕ) : Type 0 where
  pub size : length places ≡ known
  pub placed : (n : ℕ) → n < known → Place s (lookup (name_at n) l) (get_or places n 0)

-- how many of a list pass a test
abbrev pub count : {A : Type 0} → (A → Bool) → List A → ℕ
count p [] = 0
count p (a ∷ l) = cond (p a) (suc (count p l)) (count p l)

abbrev pub is_namespace : Attribute → Bool
is_namespace a = begins (bytes "xmlns") a.name

-- neither a known name nor one that begins with xmlns
abbrev pub is_other : Attribute → Bool
is_other a = not (is_known a.name || is_namespace a)

-- what follows a tag that ends at a position: nothing, or the content and the end tag
pub data Inner (s : List ℕ) (depth : ℕ) (name : List ℕ) (at : ℕ) (after : List ℕ) : Nodes → (more : Bool) → Type 0 where
  empty : after ≡ drop at s → Inner s depth name at after end false
  full : (l : Nodes) → RowTo s name at depth l after → Inner s depth name at after l true

-- the tag t is that of the element v, where so many may be open at once, and the text goes on after the element
pub record TagOf (s : List ℕ) (depth : ℕ) (v : Element) (after : List ℕ) (t : Tag) : Type 0 where
  pub deep : 1 ≤ depth
  pub named : v.name ≡ take (t.past - t.name) (drop t.name s)
  pub tells : Tells s v.attrs t.places
  pub distinct : is_distinct v.attrs ≡ true
  pub others : t.others ≡ count is_other v.attrs
  pub namespaces : t.namespaces ≡ count is_namespace v.attrs
  pub inner : Inner s (depth - 1) v.name t.end after v.kids t.full

-- what a tag names lies in the text
pub record TagIn (s : List ℕ) (t : Tag) : Type 0 where
  pub placed : (n : ℕ) → get_or t.places n 0 ≤ length s - 1
  pub name : t.name ≤ t.past
  pub past : t.past ≤ length s
  pub end : t.end ≤ length s
