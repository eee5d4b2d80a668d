-- `markup_bench::markup_bench_is_document` meets its contract.
use mathlib.Core.Path.{ap, sym, ◌∙◌}
use Rattle.markup_bench.specs.Answer.{number}
use Rattle.markup_bench.proofs.markup_bench_is_document.Goals as goal

pub returns-then-is_document : goal.returns-then-is_document
returns-then-is_document c = ap number (sym c.if-is_document.true ∙ c.is_document.ensures)

pub returns : goal.returns
returns c = ap number (sym c.if-is_document.false ∙ c.is_document.ensures)
