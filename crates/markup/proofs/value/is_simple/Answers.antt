-- `markup::value::is_simple` meets its contract.
use Prim.Native.Nat.{ℕ, ◌<◌, ◌≤◌}
use mathlib.Core.Path.{◌≡◌, refl}
use mathlib.Core.Bool.{Bool, true, false, not, ◌&&◌}
use native.Mathlib.Omega.{arith}
use borrow.Author.Tests.{le-leb, ne_eqb}
use lib.Dec.{leb, eqb}
use Rattle.markup.specs.Values.{is_simple}
use Rattle.markup.proofs.value.is_simple.Goals as goal

-- above `<`, or not
module _ (c : ℕ) where
  above : 60 < c → not (eqb c 239) ≡ is_simple c
  above l = rw (le-leb 32 c (omega arith), ne_eqb c 60 (omega arith), ne_eqb c 38 (omega arith), ne_eqb c 34 (omega arith))

  not-above : c ≤ 60 → (leb 32 c && not (eqb c 60) && not (eqb c 38) && not (eqb c 34)) ≡ is_simple c
  not-above l = rw (ne_eqb c 239 (omega arith)) (go (leb 32 c && not (eqb c 60) && not (eqb c 38) && not (eqb c 34)))
    where
      go : (a : Bool) → a ≡ (a && true)
      go true = refl
      go false = refl

pub returns-then-c-gt60 : goal.returns-then-c-gt60
returns-then-c-gt60 c = above _ c.if-c-gt60.true

pub returns : goal.returns
returns c = not-above _ c.if-c-gt60.false
