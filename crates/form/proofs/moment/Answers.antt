-- `form::moment` meets its contract.
use mathlib.Core.Path.{◌∙◌}
use Rattle.rules.specs.Timestamp.{read_timestamp}
use Rattle.rules.proofs.Unreferenced.{no_timestamp}
use Rattle.form.proofs.Quoted.{by_raw}
use Rattle.form.proofs.moment.Goals as goal

pub returns : goal.returns
returns c = λ v h. c.read.ensures ∙ by_raw (read_timestamp c.args.shift.minutes) (no_timestamp c.args.shift.minutes) c.args.s.now c.args.q c.args.e c.requires.fact_2 c.inside-raw.ensures v h
