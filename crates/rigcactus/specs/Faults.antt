-- The faults of a record that is to be of some types, in the words of the rules ("The refusal ladder").
use Rattle.std.specs.Prelude.{ℕ, ◌≡◌, Bool, not, List, ◌++◌}
use Rattle.rules.specs.Refusal.{Refusal, TYPE, faults_in, ◌when◌}
use Rattle.rules.specs.Markup.{Element}
use Rattle.rules.specs.Check.{element_of}
use Rattle.datatype.specs.Records.{RecordOf}
use Rattle.judge.specs.Faults.{input_faults}
use Rattle.judge.specs.declared.Checked.{Checked}

-- those of any bytes as a record, and TYPE if its type is not allowed
abbrev pub typed_faults : (may : Element → Bool) → (shift : ℕ) → List ℕ → List Refusal
typed_faults may shift input = input_faults shift input ++ faults_in (λ e. TYPE when not (may e)) (element_of input)

-- whether it is, by what a record is held as
abbrev pub AllowedAs : Checked → (allowed : Bool) → (may : Element → Bool) → Type 0
AllowedAs c allowed may = (s : List ℕ) (e : Element) → RecordOf s e c.«record» → allowed ≡ may e
