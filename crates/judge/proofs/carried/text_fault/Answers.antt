-- `judge::carried::text_fault` meets its contract.
use Rattle.rules.specs.Refusal.{first_of}
use Rattle.rules.specs.Forms.{form_faults}
use Rattle.judge.proofs.carried.text_fault.Goals as goal

pub returns-in-AnyText : goal.returns-in-AnyText
unfolding first_of form_faults
returns-in-AnyText c = λ v e h r. rw c.in-AnyText.is

pub fault-requires : goal.fault-requires
fault-requires c = record { fact_1 = c.end-end.ensures.on_1 c.requires; fact_2 = c.end-end.ensures.on_2 }

pub returns : goal.returns
returns c = λ v e h r. c.fault.ensures v (rw (c.end-end.ensures.tells v e h r) r)
