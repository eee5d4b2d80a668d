-- `rigcactus::compared_number` meets its contract.
use Rattle.rigcactus.proofs.compared_number.Goals as goal

pub returns-in-Some : goal.returns-in-Some
returns-in-Some c = rw (c.in-Some.is, c.answer_number.ensures.0)
