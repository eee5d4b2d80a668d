-- `interval::list::write_bound` meets its contract.
use Rattle.std.proofs.Common.{◌∙◌}
use Rattle.interval.proofs.Writing.{bound_placed}
use Rattle.interval.proofs.list.write_bound.Goals as goal

pub returns : goal.returns
returns c = c.write_number-2.ensures ∙ rw (c.tick_bits.ensures, c.write_number.ensures, c.kind.ensures) (bound_placed c.args.b c.requires.fact_1 c.args.at c.args.out.now c.requires.fact_2)
