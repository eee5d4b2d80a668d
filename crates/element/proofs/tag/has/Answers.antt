-- `element::tag::has` meets its contract.
use Rattle.element.proofs.Asked.{present}
use Rattle.element.proofs.tag.has.Goals as goal

pub returns : goal.returns
returns c = λ s l t. present (t.placed c.args.n c.requires)
