-- `comparison::times::compare_valued` meets its contract.
use mathlib.Core.Path.{sym, ◌∙◌}
use Rattle.comparison.proofs.Flags.{also_yes}
use Rattle.comparison.proofs.times.compare_valued.Goals as goal

pub returns-in-Valued : goal.returns-in-Valued
returns-in-Valued c = rw c.in-Valued.is (c.compare_moments.ensures ∙ sym (also_yes _))
