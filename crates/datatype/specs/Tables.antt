-- What the code's table says, in the words of the rules ("Types, after decoding the five references").
use Rattle.std.specs.Prelude.{ℕ, ◌≡◌, Bool, true, false, ◌&&◌, cond, List, [], ◌∷◌, ◌++◌, Option as StdOption, Some, None}
use Rattle.std.proofs.Math.Option.{Option, none, some}
use Rattle.rules.specs.Basics.{same, is_from}
use Rattle.rules.specs.Forms.{Form}
use Rattle.rules.specs.Types.{Kind, Column as RulesColumn, ChildKind, always, typed, Child, Line as RulesLine, IVL_TS, QSU_TS, QSD_TS, CD, EN, line_of}
use Rattle.rules.specs.Judge.{Standing as RulesStanding, top, member, inside, type_columns, null_columns}
use Rattle.form.specs.declared.Form.{Form as CodeForm}
use Rattle.form.specs.Meaning.{form_of}
use Rattle.datatype.specs.Meaning.{kind_meant}
use Rattle.datatype.specs.declared.table.Standing.{Standing}
use Rattle.datatype.specs.declared.table.Standing.TheVariants.{Top, Member, Inside}
use Rattle.datatype.specs.declared.table.Row.{Row}
use Rattle.datatype.specs.declared.table.Row.TheVariants.{Empty, Bounds, Terms, Difference, Display, Parts}
use Rattle.datatype.specs.declared.table.Line.{Line}
use Rattle.datatype.specs.declared.table.Step.{Step as CodeStep}
use Rattle.datatype.specs.declared.table.Step.TheVariants.{Always, Typed}

abbrev pub standing_meant : Standing → RulesStanding
standing_meant Top = top
standing_meant Member = member
standing_meant Inside = inside

abbrev pub form_meant : StdOption CodeForm → Option Form
form_meant (Some f) = some (form_of f)
form_meant None = none

-- f of the first of a list for which a test holds
abbrev pub pick : {A B : Type 0} → (A → Bool) → (A → B) → List A → Option B
pick p f [] = none
pick p f (a ∷ l) = cond (p a) (some (f a)) (pick p f l)

-- the form of the attribute of a name, among some columns
abbrev pub form_among : List RulesColumn → List ℕ → Option Form
form_among columns n = pick (λ c. same c.name n) (λ c. c.form) columns

-- every attribute that an element of a kind may carry where it stands
abbrev pub columns_of : RulesStanding → Kind → List RulesColumn
columns_of p k = type_columns p ++ null_columns k ++ (line_of k).columns

-- an element that stands there carries an xsi:type
abbrev pub has_type_column : RulesStanding → Bool
has_type_column top = true
has_type_column member = true
has_type_column inside = false

-- the children that a row holds, by a type line that has it
abbrev pub row_meant : Row → List Child
row_meant Empty = []
row_meant Bounds = (line_of IVL_TS).children
row_meant Terms = (line_of QSU_TS).children
row_meant Difference = (line_of QSD_TS).children
row_meant Display = (line_of CD).children
row_meant Parts = (line_of EN).children

-- the constants of a type line
pub record LineMeant (line : RulesLine) (r : Line) : Type 0 where
  pub nullable : r.0 ≡ line.nullable
  pub enough : r.1 ≡ line.enough
  pub row : row_meant r.2 ≡ line.children

-- a step of a row of children: the child's kind, and the stage that the row is brought to
pub record Step : Type 0 where
  pub kind : ChildKind
  pub to : ℕ

abbrev pub step_meant : StdOption CodeStep → Option Step
step_meant (Some (Always k t)) = some (record { kind = always (kind_meant k); to = t })
step_meant (Some (Typed t)) = some (record { kind = typed; to = t })
step_meant None = none

-- the step that a child of a name is, among some children, where the row stands at a stage
abbrev pub step_among : List Child → (stage : ℕ) → List ℕ → Option Step
step_among children stage n =
    pick (λ c. same c.name n && is_from c.from c.upto stage) (λ c. record { kind = c.kind; to = c.to }) children
