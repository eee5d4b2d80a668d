-- `listing::set::join` meets its contract.
use Prim.Native.Nat.{◌+◌, ◌≤◌}
use mathlib.Core.Path.{refl}
use native.Mathlib.Omega.{arith}
use Rattle.listing.proofs.Joining.{join_many, join_set, many-formed, join_formed}
use Rattle.listing.proofs.set.join.Goals as goal

pub returns-then-count-gt32 : goal.returns-then-count-gt32
returns-then-count-gt32 c =
    record { formed = (many-formed _ c.requires.fact_1, refl); tells = λ x y s t. join_many c.args.op c.args.a c.args.b x y s t c.if-count-gt32.true _ _ }

pub returns : goal.returns
returns c =
    let l : c.args.a.count + c.args.b.count ≤ 32 = omega (arith, c.if-count-gt32.false) in record { formed = (join_formed _ c.requires.fact_1 c.requires.fact_2 l c.combine-set.ensures, refl); tells = λ x y s t. join_set c.args.op c.args.a c.args.b x y s t l _ c.combine-set.ensures }
