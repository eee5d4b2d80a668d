-- `text::words::four` meets its contract.
use Rattle.text.proofs.Lanes.{word_four}
use mathlib.Core.Path.{sym}
use native.Mathlib.Omega.{arith}
use Rattle.text.proofs.words.four.Goals as goal

pub returns : goal.returns
returns c = (rw (c.two.ensures.0, c.two-2.ensures.0) (sym (word_four c.args.s.now c.args.at c.requires)), omega (arith, c.two.ensures.1, c.two-2.ensures.1))
