use mathlib.Core.Path.{refl}
use Rattle.judge.proofs.row.finish.Goals as goal

pub returns : goal.returns
returns c = (refl, λ shift v t. record { fault = rw (c.first.ensures, c.refused_if-missing.ensures, c.enough.ensures, c.has-null.ensures _ v.attrs t); any = refl; broken = c.breaks_bounds.ensures shift v.attrs v.kids t; end = refl })
