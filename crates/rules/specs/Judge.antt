-- 01-scope.md, "Types, after decoding the five references", the last paragraph of "Markup" and "The refusal ladder": every fault of an
-- element and of what is inside it, by the table.
use Rattle.std.specs.Prelude.{ℕ, Bool, true, false, not, ◌&&◌, ◌||◌, cond, ltb}
use mathlib.Core.List.{List, [], ◌∷◌, ◌++◌, flat_map}
use Rattle.std.proofs.Math.Option.{Option, none, some}
use Rattle.rules.specs.Basics.{is_some, if_some, find, exists, bytes, same, begins, is_from}
use Rattle.rules.specs.Refusal.{Refusal, TYPE, SHAPE, RULE, ◌when◌}
use Rattle.rules.specs.Markup.{Attribute, Nodes, end, node, Element, lookup}
use Rattle.rules.specs.Forms.{any_text, flavor, form_faults}
use Rattle.rules.specs.Invariants.{is_null, has_children}
use Rattle.rules.specs.Types.{Kind, member_types, all_types, type_among, Column, ◌takes◌, ChildKind, always, typed, Child, line_of}

-- where an element stands: at the top, as a member of a set, or inside another value
pub data Standing : Type 0 where
  top member inside : Standing

abbrev pub is_top : Standing → Bool
is_top top = true
is_top member = false
is_top inside = false

-- xsi:type stands on the top element and on members of sets
abbrev pub type_columns : Standing → List Column
type_columns top = "xsi:type" takes any_text ∷ []
type_columns member = "xsi:type" takes any_text ∷ []
type_columns inside = []

abbrev pub null_columns : Kind → List Column
null_columns k = cond (line_of k).nullable ("nullFlavor" takes flavor ∷ []) []

-- one attribute: `xmlns..` is ignored on the top element; one that the table does not have is SHAPE
unfoldable pub attribute_faults : (shift : ℕ) → Standing → Kind → Attribute → List Refusal
attribute_faults shift p k a = cond (is_top p && begins (bytes "xmlns") a.name) []
    (if_some (find (λ c. same c.name a.name) (type_columns p ++ null_columns k ++ (line_of k).columns))
    (λ c. form_faults shift c.form a.value)
    (SHAPE ∷ []))

abbrev pub carries : List Attribute → Column → Bool
carries attrs c = is_some (lookup c.name attrs)

-- an attribute that has to be there is missing
abbrev pub lacks : List Attribute → Column → Bool
lacks attrs c = c.required && not (carries attrs c)

-- a null element with another attribute or with a child; where that is of a kind not allowed, SHAPE comes first
abbrev pub breaks_null : Kind → List Attribute → Nodes → Bool
breaks_null k attrs kids = is_null attrs && (exists (carries attrs) (line_of k).columns || has_children kids)

-- an element, of the kind k if it has one; `within` are the faults of its children, as children of that kind
unfoldable pub element_faults : (shift : ℕ) → Standing → Option Kind → List Attribute → Nodes → (Kind → List Refusal) → List Refusal
element_faults shift p none attrs kids within = TYPE ∷ []
element_faults shift p (some k) attrs kids within =
    flat_map (attribute_faults shift p k) attrs
    ++ SHAPE when exists (lacks attrs) (line_of k).columns
    ++ within k
    ++ RULE when ((line_of k).invariant shift attrs kids || breaks_null k attrs kids)

abbrev pub kind_of : ChildKind → List Attribute → Option Kind
kind_of (always k) attrs = some k
kind_of typed attrs = type_among member_types attrs

abbrev pub standing_of : ChildKind → Standing
standing_of (always k) = inside
standing_of typed = member

-- the child of a name that a row of k at a stage can go on with
abbrev pub next_child : Kind → (stage : ℕ) → List ℕ → Option Child
next_child k stage n = find (λ c. same c.name n && is_from c.from c.upto stage) (line_of k).children

-- the children of an element of kind k from here on, where the allowed ones before have brought its row to a stage;
-- one that is not allowed is SHAPE, takes no place in the row, and nothing inside it is judged
unfoldable pub child_faults : (shift : ℕ) → Kind → (null : Bool) → (stage : ℕ) → Nodes → List Refusal
child_faults shift k null stage end = SHAPE when (not null && ltb stage (line_of k).enough)
child_faults shift k null stage (node n attrs kids rest) =
    if_some (next_child k stage n)
    (λ c. element_faults shift (standing_of c.kind) (kind_of c.kind attrs) attrs kids (λ j. child_faults shift j (is_null attrs) 0 kids))
    (SHAPE ∷ [])
    ++ child_faults shift k null (if_some (next_child k stage n) (λ c. c.to) stage) rest

-- every fault of a record's element
abbrev pub top_faults : (shift : ℕ) → Element → List Refusal
top_faults shift e = element_faults shift top (type_among all_types e.attrs) e.attrs e.kids
    (λ k. child_faults shift k (is_null e.attrs) 0 e.kids)
