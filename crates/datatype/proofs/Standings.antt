-- The attributes that an element may carry where it stands.
use Prim.Native.Nat.{ℕ}
use mathlib.Core.Path.{◌≡◌}
use mathlib.Core.Bool.{true, false, cond}
use mathlib.Core.List.{List, ◌++◌}
use mathlib.Core.Option.{Option, some}
use Rattle.rules.specs.Basics.{bytes, same}
use Rattle.rules.specs.Forms.{Form, any_text}
use Rattle.rules.specs.Types.{Kind, line_of}
use Rattle.rules.specs.Judge.{Standing, top, member, inside, null_columns}
use Rattle.rules.proofs.Tests.{clash}
use Rattle.datatype.specs.Tables.{form_among, columns_of, has_type_column}

module _ (p : Standing) (k : Kind) (n : List ℕ) {o : Option Form} (h : o ≡ form_among (null_columns k ++ (line_of k).columns) n) where
  pub typed-columns : has_type_column p ≡ true → cond (same (bytes "xsi:type") n) (some any_text) o ≡ form_among (columns_of p k) n
  typed-columns t = go p t
    where
      go : (p : Standing) → has_type_column p ≡ true → cond (same (bytes "xsi:type") n) (some any_text) o ≡ form_among (columns_of p k) n
      go top t = rw h
      go member t = rw h
      go inside t = clash (cc)

  pub untyped_columns : has_type_column p ≡ false → o ≡ form_among (columns_of p k) n
  untyped_columns t = go p t
    where
      go : (p : Standing) → has_type_column p ≡ false → o ≡ form_among (columns_of p k) n
      go top t = clash (cc)
      go member t = clash (cc)
      go inside t = h
