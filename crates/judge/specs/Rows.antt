-- Elements judged with what stands inside them, in the words of the rules ("The refusal ladder").
use Rattle.std.specs.Prelude.{ℕ, ◌≡◌, Bool, true, false, not, ◌&&◌, cond, List, ◌⊎◌, eqb, ltb, drop}
use Rattle.std.proofs.Math.Option.{Option, none, some}
use Rattle.rules.specs.Basics.{if_some}
use Rattle.rules.specs.Refusal.{Refusal, SHAPE, RULE, earlier, first_of, ◌when◌}
use Rattle.rules.specs.Markup.{Attribute, Element}
use Rattle.rules.specs.Invariants.{is_null, has_children, breaks_interval}
use Rattle.rules.specs.Types.{Kind, TS, IVL_TS, QSU_TS, QSI_TS, QSD_TS, MO, II, CD, EN, DisplayName, Part, line_of}
use Rattle.rules.specs.Judge.{kind_of, child_faults}
use Rattle.refusal.specs.Meaning.{fault_of}
use Rattle.datatype.specs.Meaning.{kind_meant}
use Rattle.datatype.specs.Tables.{standing_meant, Step, step_among}
use Rattle.datatype.specs.Said.{Said, nothing, said_meant, said_by, BoundsSaid}
use Rattle.judge.specs.Faults.{judged, child_judged}
use Rattle.judge.specs.declared.row.Asked.{Asked}
use Rattle.judge.specs.declared.row.Content.{Content}
use Rattle.judge.specs.declared.row.Row.{Row}

-- what an element of a kind says as a bound: a time what it says, another nothing
abbrev pub said_of : Kind → (shift : ℕ) → List Attribute → Said
said_of TS shift attrs = said_by shift attrs
said_of IVL_TS shift attrs = nothing
said_of QSU_TS shift attrs = nothing
said_of QSI_TS shift attrs = nothing
said_of QSD_TS shift attrs = nothing
said_of MO shift attrs = nothing
said_of II shift attrs = nothing
said_of CD shift attrs = nothing
said_of EN shift attrs = nothing
said_of DisplayName shift attrs = nothing
said_of Part shift attrs = nothing

-- what a child says as a bound, by the step that it is
abbrev pub child_said : (shift : ℕ) → Option Step → Element → Said
child_said shift o v = if_some o (λ t. if_some (kind_of t.kind v.attrs) (λ k. said_of k shift v.attrs) nothing) nothing

-- a row of children as far as it is judged: the first fault, the stage, whether there are any, and what the last one after which the row stands
-- at stage 1, and the last other one, say
pub record Judging : Type 0 where
  pub fault : Option Refusal
  pub stage : ℕ
  pub any : Bool
  pub low : Said
  pub high : Said

abbrev pub row_meant : Row → Judging
row_meant r = record { fault = fault_of r.fault; stage = r.stage; any = r.any; low = said_meant r.low; high = said_meant r.high }

abbrev pub beginning : Judging
beginning = record { fault = none; stage = 0; any = false; low = nothing; high = nothing }

-- the row with a child more, after which it stands at a stage, and which has a first fault and says something
abbrev pub with_child : Judging → (stage : ℕ) → Option Refusal → Said → Judging
with_child j stage fault said =
    record { fault = earlier j.fault fault; stage = stage; any = true; low = cond (eqb stage 1) said j.low; high = cond (eqb stage 1) j.high said }

-- the row of an element of a kind with the child v more
abbrev pub row_step : (shift : ℕ) → Kind → Judging → Element → Judging
row_step shift k j v =
    with_child j (if_some (step_among (line_of k).children j.stage v.name) (λ t. t.to) j.stage)
    (first_of (child_judged shift (step_among (line_of k).children j.stage v.name) v))
    (child_said shift (step_among (line_of k).children j.stage v.name) v)

-- what a child is judged as, by the step that it is in a row that stands at a stage: the refusal, if it is not allowed or has no type, or else an
-- element of a kind, where it stands; and the stage that the row is brought to
pub record AskedAs (shift : ℕ) (o : Option Step) (stage : ℕ) (v : Element) (a : Asked) : Type 0 where
  pub fault : first_of (child_judged shift o v) ≡ if_some (fault_of a.fault) some (first_of (judged shift (standing_meant a.standing) (some (kind_meant a.kind)) v))
  pub said : child_said shift o v ≡ said_of (kind_meant a.kind) shift v.attrs
  pub to : a.stage ≡ if_some o (λ t. t.to) stage

-- what is inside the element v, of a kind, by the row of its children, all judged; v ends at a position. A row that has not come far enough is SHAPE
pub record Finished (shift : ℕ) (k : Kind) (v : Element) (row : Row) (at : ℕ) (r : Content) : Type 0 where
  pub fault : fault_of r.fault ≡ earlier (fault_of row.fault) (first_of (SHAPE when (not (is_null v.attrs) && ltb row.stage (line_of k).enough)))
  pub any : r.any ≡ row.any
  pub broken : k ≡ IVL_TS → BoundsSaid shift v.kids row.low row.high → r.broken ≡ breaks_interval shift v.attrs v.kids
  pub end : r.end ≡ at

-- RULE, or a fault before it on the ladder: a broken invariant beside it changes nothing
abbrev pub Hides : Option Refusal → Type 0
Hides o = earlier o (some RULE) ≡ o

-- what is inside the element v, of a kind, judged: the first fault, whether there are children, where the element ends, and, unless that fault is
-- RULE or comes before it, whether the bounds of an interval break a rule
pub record ContentAs (s : List ℕ) (shift : ℕ) (k : Kind) (v : Element) (after : List ℕ) (r : Content) : Type 0 where
  pub fault : fault_of r.fault ≡ first_of (child_faults shift k (is_null v.attrs) 0 v.kids)
  pub any : r.any ≡ has_children v.kids
  pub ends : after ≡ drop r.end s
  pub broken : Hides (fault_of r.fault)
      ⊎ (k ≡ IVL_TS → r.broken ≡ breaks_interval shift v.attrs v.kids)
