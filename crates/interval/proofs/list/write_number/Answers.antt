-- `interval::list::write_number` meets its contract.
use Rattle.std.proofs.Common.{ap, ◌∙◌}
use Rattle.writer.specs.Placing.{placed}
use Rattle.interval.proofs.Writing.{le_bytes}
use Rattle.interval.proofs.list.write_number.Goals as goal

pub returns : goal.returns
returns c = c.put.ensures.bytes_are ∙ ap (λ b. placed c.args.at b c.args.out.now) (c.to_le_bytes.ensures ∙ le_bytes c.args.n)
