-- The first child of a name, found in a walk over the children, in the words of the rules ("Types, after decoding the five references").
use Rattle.std.specs.Prelude.{ℕ, ◌≡◌, List, Option, Some, None}
use Rattle.rules.specs.Markup.{Nodes, node, Element}
use Rattle.datatype.specs.Said.{Said, said_meant, said_named}
use Rattle.datatype.specs.declared.said.Said.{Said as CodeSaid}

-- what the first child of a name says, by what is known of those passed and by those left
abbrev pub said_from : (shift : ℕ) → (name : List ℕ) → Option CodeSaid → (left : Nodes) → Said
said_from shift name (Some x) left = said_meant x
said_from shift name None left = said_named shift name left

-- what is known before the child v, and after it
abbrev pub Passes : (shift : ℕ) → (name : List ℕ) → Element → Option CodeSaid → Option CodeSaid → Type 0
Passes shift name v f r = (left : Nodes) → said_from shift name f (node v.name v.attrs v.kids left) ≡ said_from shift name r left
