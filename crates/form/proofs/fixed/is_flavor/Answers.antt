-- `form::fixed::is_flavor` meets its contract.
use Rattle.form.proofs.Choices.{flavor_groups}
use Rattle.form.proofs.fixed.is_flavor.Goals as goal

pub returns : goal.returns
returns c = λ v a h. rw (c.is.ensures v a h, c.is_invalid.ensures v a h, c.is-2.ensures v a h, c.is-3.ensures v a h, c.is_unknown.ensures v a h) (flavor_groups v)
