-- `timestamp::is_date` meets its contract.
use Rattle.timestamp.proofs.Months.{first-days, last_days}
use Rattle.rules.proofs.Tests.{is_from-true}
use mathlib.Core.Path.{refl, sym, ◌∙◌}
use Rattle.timestamp.proofs.is_date.Goals as goal

pub returns-then-not-in_range : goal.returns-then-not-in_range
returns-then-not-in_range c = rw (sym c.in_range.ensures ∙ c.if-not-in_range.true) refl

pub returns-then-not-in_range-2 : goal.returns-then-not-in_range-2
returns-then-not-in_range-2 c = rw (sym c.in_range.ensures ∙ c.if-not-in_range.false, sym c.in_range-2.ensures ∙ c.if-not-in_range-2.true) refl

pub returns-then-in_range : goal.returns-then-in_range
returns-then-in_range c = let m = sym c.in_range-2.ensures ∙ c.if-not-in_range-2.false in rw (sym c.in_range.ensures ∙ c.if-not-in_range.false, m, first-days c.args.year c.args.month c.args.day m (sym c.in_range-3.ensures ∙ c.if-in_range.true)) refl

pub month_length-requires : goal.month_length-requires
month_length-requires c = let all = is_from-true 1 12 _ (sym c.in_range-2.ensures ∙ c.if-not-in_range-2.false) in record { fact_1 = all.0; fact_2 = all.1 }

pub returns : goal.returns
returns c = rw (sym c.in_range.ensures ∙ c.if-not-in_range.false, sym c.in_range-2.ensures ∙ c.if-not-in_range-2.false, ← c.month_length.ensures, ← last_days c.month_length.result c.args.day (sym c.in_range-3.ensures ∙ c.if-in_range.false)) c.in_range-4.ensures
