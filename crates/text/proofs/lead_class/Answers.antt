use mathlib.Core.Path.{refl}
use native.Mathlib.Omega.{arith}
use Rattle.rules.specs.Basics.{find}
use Rattle.rules.specs.Utf8.{lead_of}
use Rattle.text.specs.Characters.{followers}
use Rattle.text.proofs.Leads.{leads_alone, leads-two, leads-three, leads_four, leads-nothing-low, leads-nothing-high}
use Rattle.text.proofs.lead_class.Goals as goal

pub returns-in-224 : goal.returns-in-224
unfolding followers lead_of find
returns-in-224 c = rw c.in-224.is refl

pub returns-in-237 : goal.returns-in-237
unfolding followers lead_of find
returns-in-237 c = rw c.in-237.is refl

pub returns-in-240 : goal.returns-in-240
unfolding followers lead_of find
returns-in-240 c = rw c.in-240.is refl

pub returns-in-244 : goal.returns-in-244
unfolding followers lead_of find
returns-in-244 c = rw c.in-244.is refl

pub returns-in-0-to-127 : goal.returns-in-0-to-127
returns-in-0-to-127 c = leads_alone _ (omega arith)

pub returns-in-194-to-223 : goal.returns-in-194-to-223
returns-in-194-to-223 c = leads-two _ (omega arith) (omega arith)

pub returns-in-225-to-236 : goal.returns-in-225-to-236
returns-in-225-to-236 c = leads-three _ (omega arith) (omega arith) (omega arith) (omega arith)

pub returns-in-241-to-243 : goal.returns-in-241-to-243
returns-in-241-to-243 c = leads_four _ (omega arith) (omega arith) (omega arith)

pub returns-in_default : goal.returns-in_default
returns-in_default c = leads-nothing-low _ (omega arith) (omega arith)

pub returns-in_default-2 : goal.returns-in_default-2
returns-in_default-2 c = leads-nothing-high _ (omega arith)
