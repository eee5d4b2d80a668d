-- A record checked, in the words of the rules ("The refusal ladder").
use Rattle.std.specs.Prelude.{ℕ, ◌≡◌, true, false, List}
use Rattle.std.proofs.Math.Option.{some}
use Rattle.rules.specs.Refusal.{first_of}
use Rattle.rules.specs.Markup.{Element, document}
use Rattle.rules.specs.Types.{Kind, all_types, type_among}
use Rattle.rules.specs.Judge.{top_faults}
use Rattle.rules.specs.Utf8.{is_utf8}
use Rattle.rules.specs.Check.{is_too_long}
use Rattle.refusal.specs.Meaning.{refusal_of, fault_of}
use Rattle.refusal.specs.declared.Refusal.{Refusal}
use Rattle.element.specs.Tags.{TagIn}
use Rattle.datatype.specs.Records.{RecordOf}
use Rattle.judge.specs.Faults.{input_faults}
use Rattle.judge.specs.declared.Checked.{Checked}

-- a document checked: its first fault, and, if it has a type, what it is held as
pub record DocumentAs (s : List ℕ) (shift : ℕ) (r : Checked) : Type 0 where
  pub within : TagIn s r.«record».tag
  pub fault : (v : Element) → document s ≡ some v → fault_of r.fault ≡ first_of (top_faults shift v)
  pub held : (v : Element) (k : Kind) → document s ≡ some v → type_among all_types v.attrs ≡ some k → RecordOf s v r.«record»

-- any bytes checked as a record
pub record CheckedAs (s : List ℕ) (shift : ℕ) (r : Checked) : Type 0 where
  pub within : TagIn s r.«record».tag
  pub fault : fault_of r.fault ≡ first_of (input_faults shift s)
  pub held : (v : Element) (k : Kind) → is_too_long s ≡ false → is_utf8 s ≡ true → document s ≡ some v → type_among all_types v.attrs ≡ some k → RecordOf s v r.«record»

-- refused before there is a type
pub record RefusedAs (q : Refusal) (r : Checked) : Type 0 where
  pub within : (s : List ℕ) → TagIn s r.«record».tag
  pub fault : fault_of r.fault ≡ some (refusal_of q)
