-- The faults of an element and of any bytes, put together, in the words of the rules ("The refusal ladder").
use Rattle.std.specs.Prelude.{ℕ, not, List, [], ◌∷◌, ◌++◌}
use Rattle.std.proofs.Math.Option.{Option}
use Rattle.rules.specs.Basics.{if_some}
use Rattle.rules.specs.Refusal.{Refusal, TOO_LONG, NOT_UTF_8, SHAPE, faults_in, ◌when◌}
use Rattle.rules.specs.Markup.{Element}
use Rattle.rules.specs.Invariants.{is_null}
use Rattle.rules.specs.Types.{Kind}
use Rattle.rules.specs.Judge.{Standing, element_faults, kind_of, standing_of, child_faults, top_faults}
use Rattle.rules.specs.Utf8.{is_utf8}
use Rattle.rules.specs.Check.{is_too_long, element_of}
use Rattle.datatype.specs.Tables.{Step}

-- every fault of an element, of the kind k if it has one, and of what is inside it
abbrev pub judged : (shift : ℕ) → Standing → Option Kind → Element → List Refusal
judged shift p k v = element_faults shift p k v.attrs v.kids (λ j. child_faults shift j (is_null v.attrs) 0 v.kids)

-- every fault of a child, by the step that it is; one that is none is SHAPE
abbrev pub child_judged : (shift : ℕ) → Option Step → Element → List Refusal
child_judged shift o v = if_some o (λ t. judged shift (standing_of t.kind) (kind_of t.kind v.attrs) v) (SHAPE ∷ [])

-- every fault of any bytes as a record, but for OFFSET
abbrev pub input_faults : (shift : ℕ) → List ℕ → List Refusal
input_faults shift input =
    TOO_LONG when is_too_long input ++ NOT_UTF_8 when not (is_utf8 input) ++ faults_in (top_faults shift) (element_of input)
