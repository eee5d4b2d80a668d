-- `datatype::columns::null_column` meets its contract.
use mathlib.Core.Path.{sym, ◌∙◌}
use Rattle.datatype.proofs.columns.null_column.Goals as goal

pub returns-then-is_nullable : goal.returns-then-is_nullable
returns-then-is_nullable c = rw (c.takes.ensures, c.own_column-own.ensures, sym c.is_nullable.ensures ∙ c.if-is_nullable.true)

pub returns : goal.returns
returns c = rw (c.own_column-own.ensures, sym c.is_nullable.ensures ∙ c.if-is_nullable.false)
