use Rattle.judge.proofs.Rowing.{row-child, refused-or}
use Rattle.judge.specs.Rows.{row_meant}
use mathlib.Core.Path.{◌∙◌}
use Rattle.judge.proofs.row.with_child.Goals as goal

pub returns : goal.returns
returns c = (
  c.with_judged.ensures.1,
  λ k depth v after t a x.
      let n = c.time_in-time.ensures v.attrs t.tells in
      c.with_judged.ensures.0 ∙ row-child k (row_meant c.args.row) a (rw (c.and-fault.ensures, refused-or c.args.asked.fault c.judge_with-judged.result, c.judge_with-judged.ensures depth v after t n.0 x)) n.1,
)
