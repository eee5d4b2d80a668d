-- The faults of an element put together, and those of children, one after another.
use Prim.Native.Nat.{ℕ}
use mathlib.Core.Path.{◌≡◌, sym, ◌∙◌, ap}
use mathlib.Core.Bool.{Bool, ◌&&◌, ◌||◌}
use mathlib.Core.List.{List, [], ◌∷◌, ◌++◌, flat_map}
use mathlib.Core.Option.{Option, some}
use Rattle.rules.specs.Basics.{if_some, exists, same, is_from}
use Rattle.rules.specs.Refusal.{Refusal, SHAPE, RULE, earlier, first_of, ◌when◌}
use Rattle.rules.specs.Markup.{Nodes, node, Element}
use Rattle.rules.specs.Types.{Kind, Child, line_of}
use Rattle.rules.specs.Judge.{Standing, attribute_faults, lacks, breaks_null, element_faults, kind_of, standing_of, child_faults}
use Rattle.rules.specs.Invariants.{is_null}
use Rattle.rules.proofs.Precedence.{first_of-append, earlier_assoc, earlier_comm}
use Rattle.datatype.specs.Tables.{Step, step_among}
use Rattle.judge.specs.Faults.{judged, child_judged}
use Rattle.judge.proofs.AttributeFaults.{picked}

-- the faults of an element of a kind, but for those of its children
abbrev pub own_faults : (shift : ℕ) → Standing → Kind → Element → List Refusal
own_faults shift p k v =
    flat_map (attribute_faults shift p k) v.attrs
    ++ SHAPE when exists (lacks v.attrs) (line_of k).columns
    ++ RULE when ((line_of k).invariant shift v.attrs v.kids || breaks_null k v.attrs v.kids)

-- a refusal that is given exactly if something is so
pub when_so : (r : Refusal) {o : Option Refusal} {a b : Bool} → o ≡ first_of (r when a) → a ≡ b → o ≡ first_of (r when b)
when_so r e f = e ∙ ap (λ (x : Bool). first_of (r when x)) f

-- the first of an element's own faults, from the first of each kind of them
pub own_first : (shift : ℕ) (p : Standing) (k : Kind) (v : Element) {x y z : Option Refusal} → x ≡ first_of (flat_map (attribute_faults shift p k) v.attrs)
    → y ≡ first_of (SHAPE when exists (lacks v.attrs) (line_of k).columns)
    → z ≡ first_of (RULE when ((line_of k).invariant shift v.attrs v.kids || breaks_null k v.attrs v.kids))
    → earlier x (earlier y z) ≡ first_of (own_faults shift p k v)
own_first shift p k v e f g = rw (e, f, g) (go (flat_map (attribute_faults shift p k) v.attrs) (SHAPE when exists (lacks v.attrs) (line_of k).columns) _)
  where
    go : (a b c : List Refusal) → earlier (first_of a) (earlier (first_of b) (first_of c)) ≡ first_of (a ++ b ++ c)
    go a b c = sym (first_of-append (a ++ b) c ∙ ap (λ (z : Option Refusal). earlier z (first_of c)) (first_of-append a b) ∙ earlier_assoc (first_of a) (first_of b) (first_of c))

with_more : (a c w : List Refusal) → earlier (first_of (a ++ c)) (first_of w) ≡ first_of (a ++ w ++ c)
with_more a c w =
    rw (first_of-append a c, first_of-append (a ++ w) c, first_of-append a w)
    (earlier_assoc (first_of a) (first_of c) (first_of w) ∙ ap (earlier (first_of a)) (earlier_comm (first_of c) (first_of w)) ∙ sym (earlier_assoc (first_of a) (first_of w) (first_of c)))

-- an element's faults are its own and those of its children
pub own_and-children : (shift : ℕ) (p : Standing) (k : Kind) (v : Element) {x y : Option Refusal} → x ≡ first_of (own_faults shift p k v)
    → y ≡ first_of (child_faults shift k (is_null v.attrs) 0 v.kids) → earlier x y ≡ first_of (judged shift p (some k) v)
unfolding element_faults
own_and-children shift p k v e f =
    rw (e, f)
    (with_more (flat_map (attribute_faults shift p k) v.attrs ++ SHAPE when exists (lacks v.attrs) (line_of k).columns)
    (RULE when ((line_of k).invariant shift v.attrs v.kids || breaks_null k v.attrs v.kids))
    (child_faults shift k (is_null v.attrs) 0 v.kids))

-- a child's faults and those of the children after it
pub child-and-rest : (shift : ℕ) (k : Kind) (null : Bool) (stage : ℕ) (v : Element) (j : Nodes)
    → first_of (child_faults shift k null stage (node v.name v.attrs v.kids j))
    ≡ earlier (first_of (child_judged shift (step_among (line_of k).children stage v.name) v))
    (first_of (child_faults shift k null (if_some (step_among (line_of k).children stage v.name) (λ t. t.to) stage) j))
unfolding child_faults
child-and-rest shift k null stage v j =
    rw (
      picked here step (λ t. judged shift (standing_of t.kind) (kind_of t.kind v.attrs) v) (SHAPE ∷ []) (line_of k).children,
      picked here step (λ t. t.to) stage (line_of k).children,
    )
    (first_of-append _ _)
  where
    here : Child → Bool
    here c = same c.name v.name && is_from c.from c.upto stage

    step : Child → Step
    step c = record { kind = c.kind; to = c.to }
