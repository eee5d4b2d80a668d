-- `datatype::columns::column_of` meets its contract.
use mathlib.Core.Path.{sym, ◌∙◌}
use Rattle.datatype.specs.Meaning.{kind_meant}
use Rattle.datatype.specs.Tables.{standing_meant}
use Rattle.datatype.proofs.Standings.{typed-columns, untyped_columns}
use Rattle.datatype.proofs.columns.column_of.Goals as goal

pub returns-then-is_typed : goal.returns-then-is_typed
returns-then-is_typed c =
    c.takes.ensures
    ∙ typed-columns (standing_meant c.args.standing) (kind_meant c.args.kind) _
    c.null_column-other.ensures (sym c.is_typed.ensures ∙ c.if-is_typed.true)

pub returns : goal.returns
returns c =
    untyped_columns (standing_meant c.args.standing) (kind_meant c.args.kind) _
    c.null_column-other.ensures (sym c.is_typed.ensures ∙ c.if-is_typed.false)
