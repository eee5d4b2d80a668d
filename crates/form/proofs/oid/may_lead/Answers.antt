-- `form::oid::may_lead` meets its contract.
use mathlib.Core.Path.{sym, ◌∙◌}
use Rattle.rules.specs.Basics.{decimal}
use Rattle.form.proofs.Oids.{lead_over, lead_under, lead-two}
use Rattle.form.proofs.oid.may_lead.Goals as goal

pub returns-then-not-is_at_most : goal.returns-then-not-is_at_most
returns-then-not-is_at_most c = lead_over (decimal c.args.a.now) (decimal c.args.b.now) (sym c.is_at_most.ensures ∙ c.if-not-is_at_most.true)

pub returns-then-is_at_most : goal.returns-then-is_at_most
returns-then-is_at_most c = c.is_at_most-then-is_at_most.ensures ∙ lead_under (decimal c.args.a.now) (decimal c.args.b.now) (sym c.is_at_most-2.ensures ∙ c.if-is_at_most.true)

pub returns : goal.returns
returns c = lead-two (decimal c.args.a.now) (decimal c.args.b.now) (sym c.is_at_most.ensures ∙ c.if-not-is_at_most.false) (sym c.is_at_most-2.ensures ∙ c.if-is_at_most.false)
