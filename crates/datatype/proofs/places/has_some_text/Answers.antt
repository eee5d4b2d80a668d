-- `datatype::places::has_some_text` meets its contract.
use Rattle.element.proofs.Asked.{absent, standing}
use Rattle.datatype.proofs.places.has_some_text.Goals as goal

pub returns-then-place-eq0 : goal.returns-then-place-eq0
returns-then-place-eq0 c = λ o p. rw (absent p c.if-place-eq0.true)

pub returns : goal.returns
returns c = λ o p. let w = standing p c.if-place-eq0.false in rw (w.is, c.is_empty.ensures w.text _ w.reads)
