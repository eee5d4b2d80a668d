-- `form::currency` meets its contract.
use mathlib.Core.Path.{◌∙◌}
use Rattle.form.specs.Amounts.{code_of}
use Rattle.form.proofs.Quoted.{by_raw}
use Rattle.form.proofs.Amounting.{no_code}
use Rattle.form.proofs.currency.Goals as goal

pub returns : goal.returns
returns c = λ v h. c.code.ensures ∙ by_raw code_of no_code c.args.s.now c.args.q c.args.e c.requires.fact_2 c.inside-raw.ensures v h
