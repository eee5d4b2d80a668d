-- `totals::entry::read` meets its contract.
use Rattle.std.proofs.Common.{sym, ◌∙◌, arith}
use Rattle.totals.proofs.Entering.{null-read, amount-read}
use Rattle.totals.proofs.entry.read.Goals as goal

pub returns-then-has : goal.returns-then-has
returns-then-has c = λ e shift h f t. (tt, null-read e shift f t (sym (sym (c.has.ensures _ _ h.tag.tells) ∙ c.if-has.true)))

pub amount_at-requires : goal.amount_at-requires
amount_at-requires c = c.requires.placed 0

pub currency_at-requires : goal.currency_at-requires
currency_at-requires c = c.requires.placed 5

pub returns : goal.returns
returns c = λ e shift h f t.
    let (i, j) = amount-read e shift f t c.currency_at.result c.amount_number.result (sym (sym (c.has.ensures _ _ h.tag.tells) ∙ c.if-has.false)) (c.in_ok-negative.ensures.tells _ (h.tag.tells.placed 0 (omega arith))) c.amount_number.ensures.1 (c.currency_at.ensures _ (h.tag.tells.placed 5 (omega arith))) in
    ((i, c.amount_number.ensures.0), j)
