-- `markup::scan::is_name_byte` meets its contract.
use Prim.Native.Nat.{ℕ}
use mathlib.Core.Path.{◌≡◌, refl}
use mathlib.Core.Bool.{Bool, true, false, ◌||◌}
use lib.Dec.{eqb}
use Rattle.rules.specs.Basics.{is_from, is_digit}
use Rattle.rules.specs.Markup.{is_name_byte}
use Rattle.markup.proofs.scan.is_name_byte.Goals as goal

-- a small letter, or not
module _ (c : ℕ) where
  abbrev others : Bool → Bool
  others a = a || eqb c 95 || is_digit c || eqb c 46 || eqb c 45 || eqb c 58

  small : is_from 97 122 c ≡ true → true ≡ is_name_byte c
  small e = rw e (go (is_from 65 90 c))
    where
      go : (a : Bool) → true ≡ others (a || true)
      go true = refl
      go false = refl

  not-small : is_from 97 122 c ≡ false → others (is_from 65 90 c) ≡ is_name_byte c
  not-small e = rw e (go (is_from 65 90 c))
    where
      go : (a : Bool) → others a ≡ others (a || false)
      go true = refl
      go false = refl

pub returns-then-c : goal.returns-then-c
returns-then-c c = small c.args.c c.if-c.true

pub returns : goal.returns
returns c = not-small c.args.c c.if-c.false
