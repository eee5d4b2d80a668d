-- What stands in an element from a position on, in the words of the rules ("Markup").
use Rattle.std.specs.Prelude.{ℕ, ◌-◌, ◌≤◌, ◌<◌, ◌≡◌, Bool, List, length, take, drop}
use Rattle.rules.specs.Markup.{Nodes, end, node, Element}
use Rattle.element.specs.Tags.{ElementTo, Inner}
use Rattle.element.specs.declared.inside.Inside.{Inside}
use Rattle.element.specs.declared.inside.Inside.TheVariants.{Child, Past}

-- in the element v the elements l are left from a position on, and the text goes on after v; `full` says whether content follows its tag
abbrev pub Left : (s : List ℕ) → (full : Bool) → (depth : ℕ) → (v : Element) → (after : List ℕ) → (at : ℕ) → (l : Nodes) → Type 0
Left s full depth v after at l = Inner s (depth - 1) v.name at after l full

-- the first of some elements that are left stands at i, and the others are left from where it ends on
pub record FirstAt (s : List ℕ) (full : Bool) (depth : ℕ) (v : Element) (after : List ℕ) (i : ℕ) (l : Nodes) : Type 0 where
  pub child : Element
  pub rest : List ℕ
  pub others : Nodes
  pub is : l ≡ node child.name child.attrs child.kids others
  pub stands : ElementTo s i (depth - 1) child rest
  pub goes : (e : ℕ) → i < e → rest ≡ drop e s → Left s full depth v after e others

-- a child stands next, at i
pub record ChildAt (s : List ℕ) (full : Bool) (depth at i : ℕ) : Type 0 where
  pub deep : 1 ≤ depth
  pub low : at ≤ i
  pub high : i < length s
  pub first : (v : Element) (after : List ℕ) (l : Nodes) → Left s full depth v after at l → FirstAt s full depth v after i l

-- no child is left, and the element, whose name stands at a position, up to `past`, ends at e
pub record EndsAt (s : List ℕ) (full : Bool) (name past depth at e : ℕ) : Type 0 where
  pub low : at ≤ e
  pub high : e ≤ length s
  pub ends : (v : Element) (after : List ℕ) (l : Nodes) → 1 ≤ depth → v.name ≡ take (past - name) (drop name s) → Left s full depth v after at l → (l ≡ end) × (after ≡ drop e s)

abbrev pub InsideAt : (s : List ℕ) → (full : Bool) → (name past depth at : ℕ) → Inside → Type 0
InsideAt s full name past depth at (Child i) = ChildAt s full depth at i
InsideAt s full name past depth at (Past e) = EndsAt s full name past depth at e
