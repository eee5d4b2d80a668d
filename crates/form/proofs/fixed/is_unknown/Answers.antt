-- `form::fixed::is_unknown` meets its contract.
use Rattle.rules.specs.Basics.{split}
use Rattle.form.proofs.Choices.{one_by_one}
use Rattle.form.proofs.fixed.is_unknown.Goals as goal

pub returns : goal.returns
unfolding split
returns c = λ v a h. rw (c.is.ensures v a h, c.is-2.ensures v a h, c.is-3.ensures v a h, c.is-4.ensures v a h, c.is-5.ensures v a h, c.is-6.ensures v a h) (one_by_one "UNK ASKU NAV NASK QS TRC" v)
