-- `interval::set::same` meets its contract.
use Rattle.interval.specs.Meaning.{used}
use Rattle.interval.proofs.Unique.{items_decide, says_same}
use Rattle.interval.proofs.set.same.Goals as goal

pub returns : goal.returns
returns c = says_same c.args.a c.args.b c.eq.result c.requires.fact_1 c.requires.fact_2 (items_decide (used c.args.a) (used c.args.b) c.eq.result c.eq.ensures)
