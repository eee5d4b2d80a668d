use Rattle.judge.proofs.Crossing.{no_interval}
use native.Mathlib.Omega.{arith}
use Rattle.judge.proofs.rule.breaks_bounds.Goals as goal

pub breaks_interval-requires : goal.breaks_interval-requires
breaks_interval-requires c = let in-text = c.requires.placed in record { fact_1 = omega (arith, in-text 3); fact_2 = omega (arith, in-text 4) }

pub returns-in-IvlTs : goal.returns-in-IvlTs
returns-in-IvlTs c = λ shift l kids t e b. c.breaks_interval.ensures shift l kids (t.placed 3 (omega arith)) (t.placed 4 (omega arith)) b

pub returns : goal.returns
returns c = λ shift l kids t e. no_interval c.args.kind c.in_default.not-IvlTs e
