-- A record as it is held after checking, in the words of the rules ("Types, after decoding the five references").
use Rattle.std.specs.Prelude.{ℕ, ◌≡◌, List}
use Rattle.std.proofs.Math.Option.{some}
use Rattle.rules.specs.Markup.{Element}
use Rattle.rules.specs.Types.{all_types, type_among}
use Rattle.element.specs.Tags.{TagOf}
use Rattle.datatype.specs.Meaning.{kind_meant}
use Rattle.datatype.specs.declared.record.Record.{Record}

-- r is the record of the text s whose element is e
pub record RecordOf (s : List ℕ) (e : Element) (r : Record) : Type 0 where
  pub after : List ℕ
  pub tag : TagOf s 8 e after r.tag
  pub kind : type_among all_types e.attrs ≡ some (kind_meant r.kind)
