-- `text::follows_two` meets its contract.
use mathlib.Core.Path.{sym, ◌∙◌}
use mathlib.Core.Bool.{and-true}
use mathlib.Core.List.{[], ◌∷◌}
use native.Mathlib.Omega.{arith}
use Rattle.rules.specs.Utf8.{tail}
use Rattle.text.specs.Characters.{fill}
use Rattle.text.proofs.Following.{fill-past, fill-at}
use Rattle.text.proofs.follows_two.Goals as goal

pub returns-then-s-at-lt1 : goal.returns-then-s-at-lt1
returns-then-s-at-lt1 c = sym (fill-past (tail ∷ []) _ _ c.requires (omega arith))

pub returns : goal.returns
unfolding fill
returns c = c.is_tail.ensures ∙ sym (and-true _) ∙ sym (fill-at tail [] c.args.s.now c.args.at (omega arith))
