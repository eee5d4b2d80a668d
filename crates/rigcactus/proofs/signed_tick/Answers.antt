-- `rigcactus::signed_tick` meets its contract.
use mathlib.Core.Path.{refl}
use mir.Syntax.{w64}
use mir.ValLaws.{to_z-of_z}
use lib.IntN.{pos, ◌-ℤ◌}
use Rattle.rules.specs.Timestamp.{before_start, tick_at}
use Rattle.rigcactus.proofs.Signed.{small-read, tick-fits}
use Rattle.rigcactus.proofs.signed_tick.Goals as goal

pub overflow_sub-result : goal.overflow_sub-result
overflow_sub-result c = rw (small-read c.args.start c.requires) (tick-fits c.args.start c.requires)

pub returns : goal.returns
unfolding tick_at
returns c = rw (small-read c.args.start c.requires, to_z-of_z w64 (pos c.args.start -ℤ pos before_start) (tick-fits c.args.start c.requires)) refl
