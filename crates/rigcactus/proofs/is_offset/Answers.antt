-- `rigcactus::is_offset` meets its contract.
use mir.Syntax.{w64}
use mir.ValLaws.{to_z-of_z}
use Rattle.rigcactus.proofs.Signed.{in_range}
use Rattle.rigcactus.proofs.is_offset.Goals as goal

pub returns : goal.returns
returns c = rw (to_z-of_z w64 c.args.offset c.ranges.offset) (in_range c.args.offset)
