-- `printing::term_at` meets its contract.
use mathlib.Core.Path.{◌≡◌, sym, ◌∙◌}
use Rattle.printing.specs.Records.{term_row}
use Rattle.printing.proofs.Records.{row-some, row-kinds}
use Rattle.printing.proofs.term_at.Goals as goal

pub stretch_from-requires : goal.stretch_from-requires
stretch_from-requires c =
    let k = row-kinds c.args.list.now c.requires.fact_1 c.args.k c.requires.fact_2 in
    let e : c.read_row.result ≡ term_row c.args.list.now c.args.k = c.read_row.ensures ∙ sym (row-some c.args.list.now c.if-list-eq0.false c.args.k) in
    rw e (record { fact_1 = k.0; fact_2 = k.1 })
