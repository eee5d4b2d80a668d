use Rattle.element.proofs.Rows.{end_tag_past}
use Rattle.element.proofs.row.past_end_tag.Goals as goal

pub returns : goal.returns
returns c = let g = end_tag_past _ c.requires.fact_1 c.read_end_tag.ensures in record { within = rw c.unwrap_or.ensures g.0; tells = rw c.unwrap_or.ensures g.1 }
