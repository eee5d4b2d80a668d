-- `text::follows_four` meets its contract.
use Rattle.rules.specs.Utf8.{◌to◌, tail}
use mathlib.Core.Path.{sym}
use native.Mathlib.Omega.{arith}
use Rattle.text.proofs.Following.{fill-past, fill-three}
use Rattle.text.proofs.follows_four.Goals as goal

pub returns-then-s-at-lt3 : goal.returns-then-s-at-lt3
returns-then-s-at-lt3 c = sym (fill-past _ _ _ c.requires (omega arith))

pub returns : goal.returns
returns c = rw (c.in_range.ensures, c.is_tail.ensures, c.is_tail-2.ensures)
    (sym (fill-three (c.args.low to c.args.high) tail tail c.args.s.now c.args.at (omega arith)))
