-- `interval::set::is_in` meets its contract.
use Rattle.std.proofs.Common.{ap, ◌∙◌}
use Rattle.interval.specs.Edges.{is_within}
use Rattle.interval.proofs.Members.{within_place}
use Rattle.interval.proofs.set.is_in.Goals as goal

pub returns : goal.returns
returns c = c.is_within.ensures ∙ ap (is_within c.args.v) c.place_number.ensures ∙ within_place c.args.v c.requires.fact_1 c.requires.fact_2 c.args.n c.args.gap c.requires.fact_3
