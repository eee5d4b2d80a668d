-- Of all kinds only a displayName has an attribute that has to be there.
use mathlib.Core.Path.{◌≡◌, refl}
use mathlib.Core.Bool.{false}
use mathlib.Core.List.{List}
use Rattle.rules.specs.Basics.{exists}
use Rattle.rules.specs.Markup.{Attribute}
use Rattle.rules.specs.Types.{line_of}
use Rattle.rules.specs.Judge.{lacks}
use Rattle.datatype.specs.declared.kind.Kind.{Kind}
use Rattle.datatype.specs.declared.kind.Kind.TheVariants.{Ts, IvlTs, QsuTs, QsiTs, QsdTs, Mo, Ii, Cd, En, DisplayName, Part}
use Rattle.datatype.specs.Meaning.{kind_meant}

pub none-required : (l : List Attribute) (k : Kind) → (k ≡ DisplayName → ⊥)
    → false ≡ exists (lacks l) (line_of (kind_meant k)).columns
unfolding line_of exists
none-required l Ts e = refl
none-required l IvlTs e = refl
none-required l QsuTs e = refl
none-required l QsiTs e = refl
none-required l QsdTs e = refl
none-required l Mo e = refl
none-required l Ii e = refl
none-required l Cd e = refl
none-required l En e = refl
none-required l DisplayName e = absurd (e refl)
none-required l Part e = refl
