use Rattle.judge.proofs.Checking.{too_long, not_utf8, no_document, a_document}
use mathlib.Core.Path.{sym, ◌∙◌}
use Rattle.judge.proofs.check.Goals as goal

pub returns-then-input-gt-MOST : goal.returns-then-input-gt-MOST
returns-then-input-gt-MOST c = too_long c.args.shift.minutes c.args.input.now c.refused.result c.if-input-gt-MOST.true c.refused.ensures

pub returns-then-not-is_utf8 : goal.returns-then-not-is_utf8
returns-then-not-is_utf8 c =
    not_utf8 c.args.shift.minutes c.args.input.now c.refused-then-not-is_utf8.result c.if-input-gt-MOST.false (sym c.is_utf8.ensures ∙ c.if-not-is_utf8.true) c.refused-then-not-is_utf8.ensures

pub returns-then-not-is_document : goal.returns-then-not-is_document
returns-then-not-is_document c =
    no_document c.args.shift.minutes c.args.input.now c.refused-then-not-is_document.result c.if-input-gt-MOST.false (sym c.is_utf8.ensures ∙ c.if-not-is_utf8.false) (sym c.is_document.ensures ∙ c.if-not-is_document.true) c.refused-then-not-is_document.ensures

pub returns : goal.returns
returns c =
    a_document c.args.shift.minutes c.args.input.now c.check_document.result c.if-input-gt-MOST.false (sym c.is_utf8.ensures ∙ c.if-not-is_utf8.false) (sym c.is_document.ensures ∙ c.if-not-is_document.false) c.check_document.ensures
