-- `judge::rule::breaks_flag` meets its contract.
use Rattle.element.proofs.Asked.{missing}
use Rattle.judge.proofs.rule.breaks_flag.Goals as goal

pub returns-in-Valued : goal.returns-in-Valued
returns-in-Valued c = λ side l p. rw c.in-Valued.is (missing p)

pub returns-in-Infinite : goal.returns-in-Infinite
returns-in-Infinite c = λ side l p. rw c.in-Infinite.is (c.has_text.ensures _ p)

pub returns-in-Unknown : goal.returns-in-Unknown
returns-in-Unknown c = λ side l p. rw c.in-Unknown.is
