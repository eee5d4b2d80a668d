-- 01-scope.md, "Types, after decoding the five references", and `xsi:type` of "Markup": the type lines as one table.
use Rattle.std.specs.Prelude.{ℕ, Bool, true, false, List, [], ◌∷◌}
use Prim.Native.String.{String}
use Rattle.std.proofs.Math.Option.{Option}
use Rattle.rules.specs.Basics.{bytes, same, find}
use Rattle.rules.specs.Markup.{Attribute}
use Rattle.rules.specs.Forms.{Form, any_text, non_empty, timestamp, flag, amount, currency, root, part_type, qualifiers}
use Rattle.rules.specs.Invariants.{has_such, Invariant, no_invariant, breaks_time, breaks_interval, breaks_money, breaks_identifier, breaks_code, breaks_part}

-- the nine types, and the two kinds of element inside them that have no type
pub data Kind : Type 0 where
  TS IVL_TS QSU_TS QSI_TS QSD_TS MO II CD EN DisplayName Part : Kind

-- the type as `xsi:type` names it; the last two are never asked for
abbrev pub name_of : Kind → List ℕ
name_of TS = bytes "TS"
name_of IVL_TS = bytes "IVL_TS"
name_of QSU_TS = bytes "QSU_TS"
name_of QSI_TS = bytes "QSI_TS"
name_of QSD_TS = bytes "QSD_TS"
name_of MO = bytes "MO"
name_of II = bytes "II"
name_of CD = bytes "CD"
name_of EN = bytes "EN"
name_of DisplayName = bytes "displayName"
name_of Part = bytes "part"

-- what a member of a set may be: an IVL_TS or a set type; and all types
abbrev pub member_types : List Kind
member_types = IVL_TS ∷ QSU_TS ∷ QSI_TS ∷ QSD_TS ∷ []

abbrev pub all_types : List Kind
all_types = TS ∷ MO ∷ II ∷ CD ∷ EN ∷ member_types

-- the type is the value of `xsi:type`
abbrev pub has_type : List Attribute → Kind → Bool
has_type attrs k = has_such (bytes "xsi:type") (same (name_of k)) attrs

-- the type that an element names, if it is one of those given
abbrev pub type_among : List Kind → List Attribute → Option Kind
type_among kinds attrs = find (has_type attrs) kinds

-- an attribute that may be carried, the form of its text, and whether it has to be there
pub record Column : Type 0 where
  pub name : List ℕ
  pub form : Form
  pub required : Bool

infix 70 ◌takes◌ ◌needs◌
abbrev pub ◌takes◌ : String → Form → Column
n takes f = record { name = bytes n; form = f; required = false }

abbrev pub ◌needs◌ : String → Form → Column
n needs f = record { name = bytes n; form = f; required = true }

-- a child's kind: always the same, or named by its `xsi:type`
pub data ChildKind : Type 0 where
  always : Kind → ChildKind
  typed : ChildKind

-- a child that may come while the row of children stands at a stage from .. upto, and brings it to the stage `to`; a row begins at stage 0
pub record Child : Type 0 where
  pub name : List ℕ
  pub from : ℕ
  pub upto : ℕ
  pub to : ℕ
  pub kind : ChildKind

abbrev pub child : String → (from upto to : ℕ) → ChildKind → Child
child n a b c k = record { name = bytes n; from = a; upto = b; to = c; kind = k }

-- a type line: attributes beside nullFlavor, children, the stage that the row reaches unless the element is null,
-- the invariant, and whether the element may carry a nullFlavor
pub record Line : Type 0 where
  pub columns : List Column
  pub children : List Child
  pub enough : ℕ
  pub invariant : Invariant
  pub nullable : Bool

abbrev pub line : List Column → List Child → (enough : ℕ) → Invariant → Line
line a c n i = record { columns = a; children = c; enough = n; invariant = i; nullable = true }

unfoldable pub line_of : Kind → Line
line_of TS = line ("value" takes timestamp ∷ []) [] 0 breaks_time
line_of IVL_TS = line ("lowClosed" takes flag ∷ "highClosed" takes flag ∷ [])
    (child "low" 0 0 1 (always TS) ∷ child "high" 0 1 2 (always TS) ∷ []) 0 breaks_interval
line_of QSU_TS = line [] (child "term" 0 1 1 typed ∷ []) 1 no_invariant
line_of QSI_TS = line [] (child "term" 0 1 1 typed ∷ []) 1 no_invariant
line_of QSD_TS = line [] (child "minuend" 0 0 1 typed ∷ child "subtrahend" 1 1 2 typed ∷ []) 2 no_invariant
line_of MO = line ("value" takes amount ∷ "currency" takes currency ∷ []) [] 0 breaks_money
line_of II = line ("root" takes root ∷ "extension" takes non_empty ∷ []) [] 0 breaks_identifier
line_of CD = line
    ("code" takes non_empty ∷ "codeSystem" takes root ∷ "codeSystemName" takes non_empty ∷ "codeSystemVersion" takes non_empty ∷ [])
    (child "displayName" 0 0 1 (always DisplayName) ∷ []) 0 breaks_code
line_of EN = line [] (child "part" 0 1 1 (always Part) ∷ []) 1 no_invariant
line_of Part = line ("value" takes any_text ∷ "type" takes part_type ∷ "qualifier" takes qualifiers ∷ []) [] 0 breaks_part
line_of DisplayName = record { columns = "value" needs non_empty ∷ []; children = []; enough = 0; invariant = no_invariant; nullable = false }
