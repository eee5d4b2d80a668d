-- `listing::is_listed` meets its contract.
use mathlib.Core.Path.{sym, ap, ◌∙◌}
use Rattle.listing.proofs.Shapes.{is_written, kind-listed}
use Rattle.listing.proofs.is_listed.Goals as goal

pub returns-in-Single : goal.returns-in-Single
returns-in-Single c = λ s e h. sym (ap is_written c.in-Single.is) ∙ kind-listed h c.shape_of_kind-shape.ensures

pub returns-in-Members : goal.returns-in-Members
returns-in-Members c = λ s e h. sym (ap is_written c.in-Members.is) ∙ kind-listed h c.shape_of_kind-shape.ensures

pub returns-in-Other : goal.returns-in-Other
returns-in-Other c = λ s e h. sym (ap is_written c.in-Other.is) ∙ kind-listed h c.shape_of_kind-shape.ensures
