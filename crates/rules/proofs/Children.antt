-- The faults of children, one after another.
use Prim.Native.Nat.{ℕ}
use mathlib.Core.Path.{◌≡◌, refl}
use mathlib.Core.Bool.{Bool}
use mathlib.Core.List.{List, [], ◌∷◌, ◌++◌}
use Rattle.rules.specs.Basics.{if_some}
use Rattle.rules.specs.Refusal.{Refusal, SHAPE}
use Rattle.rules.specs.Markup.{Attribute, Nodes, node}
use Rattle.rules.specs.Invariants.{is_null}
use Rattle.rules.specs.Types.{Kind, ChildKind}
use Rattle.rules.specs.Judge.{element_faults, kind_of, standing_of, next_child, child_faults}

-- the faults of a child that has a kind
abbrev pub faults_as : (shift : ℕ) → List Attribute → Nodes → ChildKind → List Refusal
faults_as shift attrs kids ck = element_faults shift (standing_of ck) (kind_of ck attrs) attrs kids (λ j. child_faults shift j (is_null attrs) 0 kids)

-- a child is judged whether or not others follow it, so the last one too; then come those after it
pub each-child : (shift : ℕ) (k : Kind) (null : Bool) (stage : ℕ) (n : List ℕ) (attrs : List Attribute) (kids rest : Nodes)
    → child_faults shift k null stage (node n attrs kids rest)
    ≡ if_some (next_child k stage n) (λ c. faults_as shift attrs kids c.kind) (SHAPE ∷ []) ++ child_faults shift k null (if_some (next_child k stage n) (λ c. c.to) stage) rest
unfolding child_faults
each-child shift k null stage n attrs kids rest = refl
