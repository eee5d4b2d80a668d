-- `listing::set::shape_of` meets its contract.
use native.Mathlib.Omega.{arith}
use Rattle.listing.proofs.Shapes.{untyped, typed}
use Rattle.listing.proofs.set.shape_of.Goals as goal

pub type_at-requires : goal.type_at-requires
type_at-requires c = omega (arith, c.requires.placed 2)

pub returns-in_default : goal.returns-in_default
returns-in_default c = λ d v after h. untyped v.attrs (c.type_at.ensures v.attrs (h.tells.placed 2 (omega arith))) c.in_default.is

pub returns : goal.returns
returns c =
    λ d v after h. typed v.attrs (c.type_at.ensures v.attrs (h.tells.placed 2 (omega arith))) c.in-Some.is c.shape_of_kind.ensures
