-- `markup::value::read_written` meets its contract.
use mathlib.Core.Path.{sym}
use Rattle.text.proofs.Reading.{good}
use Rattle.markup.proofs.Characters.{char-answer, written_yes, written_no}
use Rattle.markup.proofs.value.read_written.Goals as goal

pub returns-in_err-end : goal.returns-in_err-end
returns-in_err-end c = char-answer (sym c.from_residual.ensures) (written_no _ _ c.in_err-end.ensures)

pub returns : goal.returns
returns c = written_yes _ _ c.requires.fact_2 (good c.in_ok-end.ensures)
