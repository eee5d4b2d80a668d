-- `judge::rule::has_both_ends` meets its contract.
use mathlib.Core.Path.{sym, ◌∙◌}
use Rattle.element.proofs.Asked.{absent, standing}
use Rattle.judge.proofs.rule.has_both_ends.Goals as goal

pub returns-then-place-eq0 : goal.returns-then-place-eq0
returns-then-place-eq0 c = λ l p. rw (absent p c.if-place-eq0.true)

pub returns-then-has_word : goal.returns-then-has_word
returns-then-has_word c = λ l p.
    let w = standing p c.if-place-eq0.false in
    rw (w.is, sym (c.has_word.ensures w.text _ w.reads) ∙ c.if-has_word.true) (c.has_word-then-has_word.ensures w.text _ w.reads)

pub returns : goal.returns
returns c = λ l p. let w = standing p c.if-place-eq0.false in rw (w.is, sym (c.has_word.ensures w.text _ w.reads) ∙ c.if-has_word.false)
