-- `judge::rule::breaks_part` meets its contract.
use Rattle.judge.proofs.rule.breaks_part.Goals as goal

pub returns : goal.returns
returns c = λ n l k z p q. rw (z, c.has_some_text-some.ensures _ p, c.has_both_ends.ensures l q)
