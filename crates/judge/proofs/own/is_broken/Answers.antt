use Rattle.judge.proofs.own.is_broken.Goals as goal

pub returns : goal.returns
returns c = λ shift l kids t e b. rw (c.breaks.ensures shift l kids t e b, c.breaks_null.ensures _ l kids t e)
