-- `text::char_length` meets its contract: one law for each way that a character ends.
use mathlib.Core.Path.{sym, ◌∙◌, ap, refl}
use mathlib.Core.Bool.{true}
use mathlib.Core.List.{[], ◌∷◌}
use Rattle.rules.specs.Utf8.{tail}
use Rattle.text.specs.Characters.{fill, class_followers}
use Rattle.text.proofs.Following.{char-whole, char-broken, char-none}
use Rattle.text.proofs.char_length.Goals as goal

pub returns-in-Alone : goal.returns-in-Alone
unfolding fill
returns-in-Alone c = char-whole [] _ _ true c.requires (sym (ap class_followers c.in-Alone.is) ∙ c.lead_class-class.ensures) refl refl

pub returns-then-follows_two : goal.returns-then-follows_two
returns-then-follows_two c = char-whole (tail ∷ []) _ _ _ c.requires (sym (ap class_followers c.in-Two.is) ∙ c.lead_class-class.ensures) c.follows_two.ensures c.if-follows_two.true

pub returns-else-follows_two : goal.returns-else-follows_two
returns-else-follows_two c = char-broken (tail ∷ []) _ _ _ c.requires (sym (ap class_followers c.in-Two.is) ∙ c.lead_class-class.ensures) c.follows_two.ensures c.if-follows_two.false

pub returns-then-follows_three : goal.returns-then-follows_three
returns-then-follows_three c = char-whole _ _ _ _ c.requires (sym (ap class_followers c.in-Three.is) ∙ c.lead_class-class.ensures) c.follows_three.ensures c.if-follows_three.true

pub returns-else-follows_three : goal.returns-else-follows_three
returns-else-follows_three c = char-broken _ _ _ _ c.requires (sym (ap class_followers c.in-Three.is) ∙ c.lead_class-class.ensures) c.follows_three.ensures c.if-follows_three.false

pub returns-then-follows_four : goal.returns-then-follows_four
returns-then-follows_four c = char-whole _ _ _ _ c.requires (sym (ap class_followers c.in-Four.is) ∙ c.lead_class-class.ensures) c.follows_four.ensures c.if-follows_four.true

pub returns-else-follows_four : goal.returns-else-follows_four
returns-else-follows_four c = char-broken _ _ _ _ c.requires (sym (ap class_followers c.in-Four.is) ∙ c.lead_class-class.ensures) c.follows_four.ensures c.if-follows_four.false

pub returns-in-Nothing : goal.returns-in-Nothing
returns-in-Nothing c = char-none _ _ c.requires (sym (ap class_followers c.in-Nothing.is) ∙ c.lead_class-class.ensures)
