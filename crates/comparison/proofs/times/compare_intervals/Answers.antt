-- `comparison::times::compare_intervals` meets its contract.
use mathlib.Core.Path.{◌∙◌}
use Rattle.datatype.specs.declared.bounds.Side.TheVariants.{Low, High}
use Rattle.comparison.proofs.Answers.{both-answers}
use Rattle.comparison.proofs.Sayings.{said_sides}
use Rattle.comparison.proofs.times.compare_intervals.Goals as goal

pub returns : goal.returns
returns c = λ v w after rest g h.
    let (xl, xh, xe) = c.read_sides-first.ensures.tells v after g in
    let (yl, yh, ye) = c.read_sides-second.ensures.tells w rest h in
    let low = c.same_attribute-lows.ensures v.attrs w.attrs g.tells h.tells in
    let high = c.same_attribute-highs.ensures v.attrs w.attrs g.tells h.tells in
    c.also.ensures ∙ both-answers (said_sides c.args.shift.minutes Low v w low xl yl c.compare_said-low.ensures)
    (said_sides c.args.shift.minutes High v w high xh yh c.compare_said-high.ensures)
