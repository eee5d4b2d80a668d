-- The columns of a line that attributes are on, asked number by number.
use Prim.Native.Nat.{ℕ, zero, suc, ◌+◌, ◌-◌, ◌≤◌, ◌<◌}
use mathlib.Core.Path.{◌≡◌, refl}
use mathlib.Core.Bool.{Bool, true, false, not, ◌&&◌, ◌||◌}
use mathlib.Core.List.{List}
use mathlib.Core.Option.{Option}
use native.Mathlib.Omega.{arith}
use lib.Dec.{eqb}
use Rattle.std.specs.Prelude.{Option as StdOption, Some, None, is_some as std_is_some}
use Rattle.form.specs.declared.Form.{Form as CodeForm}
use Rattle.rules.specs.Basics.{is_some, same, exists}
use Rattle.rules.specs.Markup.{Attribute, lookup}
use Rattle.rules.specs.Forms.{Form}
use Rattle.rules.specs.Types.{Kind, TS, IVL_TS, QSU_TS, QSI_TS, QSD_TS, MO, II, CD, EN, DisplayName, Part, line_of}
use Rattle.rules.specs.Judge.{carries}
use Rattle.element.specs.Names.{known, name_at}
use Rattle.element.specs.Tags.{Place}
use Rattle.element.proofs.Asked.{present}
use Rattle.datatype.specs.Tables.{form_meant, form_among}

-- the attribute of a number is on the line, and is there
abbrev pub own_at : Kind → List Attribute → ℕ → Bool
own_at k l n = is_some (form_among (line_of k).columns (name_at n)) && is_some (lookup (name_at n) l)

-- a line has a column or none
pub told : (o : StdOption CodeForm) → std_is_some o ≡ is_some (form_meant o)
told (Some f) = refl
told None = refl

-- that of one of so many numbers, from one on
unfoldable pub own_from : Kind → List Attribute → (n more : ℕ) → Bool
own_from k l n zero = false
own_from k l n (suc more) = own_at k l n || own_from k l (suc n) more

-- the columns of a line stand in the order of their numbers
pub own_numbers : (k : Kind) (l : List Attribute) → own_from k l 0 known ≡ exists (carries l) (line_of k).columns
unfolding own_from line_of exists same
own_numbers TS l = refl
own_numbers IVL_TS l = refl
own_numbers QSU_TS l = refl
own_numbers QSI_TS l = refl
own_numbers QSD_TS l = refl
own_numbers MO l = refl
own_numbers II l = refl
own_numbers CD l = refl
own_numbers EN l = refl
own_numbers DisplayName l = refl
own_numbers Part l = refl

module _ (k : Kind) (l : List Attribute) (n : ℕ) where
  pub own_end : known ≤ n → own_from k l n (known - n) ≡ false
  unfolding own_from
  own_end h = let z : known - n ≡ 0 = omega (arith, h) in rw z

  pub own_found : n < known → own_at k l n ≡ true → own_from k l n (known - n) ≡ true
  unfolding own_from
  own_found h e = let z : known - n ≡ suc (known - suc n) = omega (arith, h) in rw (z, e)

  pub own_passed : n < known → own_at k l n ≡ false → own_from k l n (known - n) ≡ own_from k l (n + 1) (known - (n + 1))
  unfolding own_from
  own_passed h e =
      let z : known - n ≡ suc (known - suc n) = omega (arith, h) in
      let w : n + 1 ≡ suc n = omega arith in
      rw (z, e, w)

  -- as the line and the tag tell
  pub own_told : {s : List ℕ} {q : ℕ} {o : Option Form} {a b : Bool} → o ≡ form_among (line_of k).columns (name_at n) → a ≡ is_some o
      → Place s (lookup (name_at n) l) q → (a && not (eqb q 0)) ≡ b → own_at k l n ≡ b
  own_told c d p e = rw (← c, ← d, ← present p) e
