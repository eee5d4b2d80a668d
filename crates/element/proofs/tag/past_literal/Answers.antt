use Rattle.element.proofs.Tagging.{literal_past}
use Rattle.element.proofs.tag.past_literal.Goals as goal

pub returns : goal.returns
returns c = rw c.unwrap_or.ensures (literal_past c.args.t.now c.requires c.read_literal.ensures)
