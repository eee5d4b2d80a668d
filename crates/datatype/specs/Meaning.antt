-- What the code's kinds mean, in the words of the rules ("Types, after decoding the five references").
use Rattle.std.specs.Prelude.{ℕ, Bool, true, false, ◌≡◌, cond, List, [], ◌∷◌, ◌++◌, map, Option as StdOption, Some, None}
use Rattle.std.proofs.Math.Option.{Option, none, some}
use denote.Ref.{Bor}
use Rattle.rules.specs.Basics.{same}
use Rattle.rules.specs.Types.{Kind as RulesKind, TS, IVL_TS, QSU_TS, QSI_TS, QSD_TS, MO, II, CD, EN, DisplayName as Display, Part as NamePart, name_of, member_types, all_types}
use Rattle.datatype.specs.declared.kind.Kind.{Kind}
use Rattle.datatype.specs.declared.kind.Kind.TheVariants.{Ts, IvlTs, QsuTs, QsiTs, QsdTs, Mo, Ii, Cd, En, DisplayName, Part}

abbrev pub kind_meant : Kind → RulesKind
kind_meant Ts = TS
kind_meant IvlTs = IVL_TS
kind_meant QsuTs = QSU_TS
kind_meant QsiTs = QSI_TS
kind_meant QsdTs = QSD_TS
kind_meant Mo = MO
kind_meant Ii = II
kind_meant Cd = CD
kind_meant En = EN
kind_meant DisplayName = Display
kind_meant Part = NamePart

abbrev pub type_meant : StdOption Kind → Option RulesKind
type_meant (Some k) = some (kind_meant k)
type_meant None = none

-- the one of some kinds that a text names
abbrev pub named_among : List RulesKind → List ℕ → Option RulesKind
named_among [] v = none
named_among (k ∷ ks) v = cond (same v (name_of k)) (some k) (named_among ks v)

-- a text is the name of a kind, in quotes
abbrev pub Quoted : List ℕ → RulesKind → Type 0
Quoted t k = t ≡ 34 ∷ name_of k ++ 34 ∷ []

-- each text of a table is the name of its type
abbrev pub Names : List (Bor (List ℕ) × Kind) → Type 0
Names [] = Unit {0}
Names (x ∷ l) = Quoted x.0.now (kind_meant x.1) × Names l

-- the types of a table
abbrev pub kinds_of : List (Bor (List ℕ) × Kind) → List RulesKind
kinds_of l = map (λ x. kind_meant x.1) l

-- the types that a record may have, and those that a member of a set may have
abbrev pub types_for : (top : Bool) → List RulesKind
types_for true = all_types
types_for false = member_types
