-- `rigcactus::answer_number` meets its contract.
use borrow.Author.Rules.{rules}
use Rattle.rigcactus.proofs.answer_number.Goals as goal

pub returns-in-Yes : goal.returns-in-Yes
returns-in-Yes c = (rw c.in-Yes.is, search rules)

pub returns-in-No : goal.returns-in-No
returns-in-No c = (rw c.in-No.is, search rules)

pub returns-in-Unknown : goal.returns-in-Unknown
returns-in-Unknown c = (rw c.in-Unknown.is, search rules)
