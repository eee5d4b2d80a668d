-- `form::oid::is_root` meets its contract, by a law for each way through it.
use mathlib.Core.Path.{sym, ◌∙◌}
use native.Mathlib.Omega.{arith}
use Rattle.rules.specs.Forms.{is_plain_number}
use Rattle.form.proofs.Oids.{root-long, root-other, root-one, root-two, root-numbers}
use Rattle.form.proofs.oid.is_root.Goals as goal

pub returns-then-t-gt-MOST : goal.returns-then-t-gt-MOST
returns-then-t-gt-MOST c = root-long c.args.t.now c.if-t-gt-MOST.true

pub returns-then-not-are_parts : goal.returns-then-not-are_parts
returns-then-not-are_parts c = root-other c.args.t.now (sym (c.are_parts.ensures is_plain_number (λ x r e. e)) ∙ c.if-not-are_parts.true)

pub returns-then-first-t : goal.returns-then-first-t
returns-then-first-t c = root-one c.args.t.now _ c.part_end-first.ensures c.if-first-t.true

pub may_lead-requires : goal.may_lead-requires
may_lead-requires c = let all = root-numbers c.args.t.now _ _ (sym (c.are_parts.ensures is_plain_number (λ x r e. e)) ∙ c.if-not-are_parts.false) c.part_end-first.ensures (omega (arith, c.part_end-first.ensures.high, c.if-first-t.false)) c.part_end-second.ensures in record { fact_1 = all.0; fact_2 = all.1 }

pub returns : goal.returns
returns c = c.may_lead.ensures ∙ root-two c.args.t.now _ _ (sym (c.are_parts.ensures is_plain_number (λ x r e. e)) ∙ c.if-not-are_parts.false) c.part_end-first.ensures (omega (arith, c.part_end-first.ensures.high, c.if-first-t.false)) c.part_end-second.ensures c.if-t-gt-MOST.false
