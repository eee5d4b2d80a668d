-- `text::follows_three` meets its contract.
use mathlib.Core.Path.{sym}
use native.Mathlib.Omega.{arith}
use Rattle.rules.specs.Utf8.{◌to◌, tail}
use Rattle.text.proofs.Following.{fill-past, fill-two}
use Rattle.text.proofs.follows_three.Goals as goal

pub returns-then-s-at-lt2 : goal.returns-then-s-at-lt2
returns-then-s-at-lt2 c = sym (fill-past _ _ _ c.requires (omega arith))

pub returns : goal.returns
returns c = rw (c.in_range.ensures, c.is_tail.ensures) (sym (fill-two (c.args.low to c.args.high) tail c.args.s.now c.args.at (omega arith)))
