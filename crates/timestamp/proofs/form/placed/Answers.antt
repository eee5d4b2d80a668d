-- `timestamp::form::placed` meets its contract.
use borrow.Author.Tests.{eq-eqb, ne_eqb}
use Rattle.timestamp.proofs.form.placed.Goals as goal

pub returns-then-count-place : goal.returns-then-count-place
returns-then-count-place c = rw (eq-eqb _ _ c.if-count-place.true)

pub returns : goal.returns
returns c = rw (ne_eqb _ _ c.if-count-place.false)
