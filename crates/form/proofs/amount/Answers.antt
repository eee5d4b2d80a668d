-- `form::amount` meets its contract.
use mathlib.Core.Path.{◌∙◌}
use Rattle.rules.specs.Parsers.{whole}
use Rattle.rules.specs.Forms.{amount_text}
use Rattle.rules.proofs.Unreferenced.{no_amount}
use Rattle.form.proofs.Quoted.{by_raw}
use Rattle.form.proofs.amount.Goals as goal

pub returns : goal.returns
returns c = record { small = c.read.ensures.small; tells = λ v h. c.read.ensures.tells ∙ by_raw (whole amount_text) no_amount c.args.s.now c.args.q c.args.e c.requires.fact_2 c.inside-raw.ensures v h }
