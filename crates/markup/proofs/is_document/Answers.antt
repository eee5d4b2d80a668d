-- `markup::is_document` meets its contract.
use Rattle.rules.specs.Markup.{element, document}
use Rattle.text.specs.Reads.{upto}
use Rattle.text.proofs.Reading.{good, both, then, then_not, last, enough, whole_is, whole-not}
use Rattle.markup.proofs.is_document.Goals as goal

pub returns-in_default : goal.returns-in_default
unfolding document
returns-in_default c =
    whole-not _ _ (both _ _ c.skip_space-i.ensures (λ a q. then_not _ _ (enough (λ n. element n 8) c.in_default.ensures)))

pub skip_space-requires : goal.skip_space-requires
skip_space-requires c = (good (enough (λ n. element n 8) c.in-Some.ensures)).high

pub returns : goal.returns
unfolding document
returns c =
    whole_is _ _ (both _ _ c.skip_space-i.ensures (λ a q. then _ _ (good (enough (λ n. element n 8) c.in-Some.ensures)) (λ x q. last _ _ (upto _ c.skip_space.ensures))))
