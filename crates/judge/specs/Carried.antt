-- The attributes of an element by the numbers of their names, in the words of the rules ("The refusal ladder").
use Rattle.std.specs.Prelude.{ℕ, Bool, not, ◌&&◌, ◌||◌, List}
use Rattle.std.proofs.Math.Option.{Option, none}
use Rattle.rules.specs.Basics.{if_some}
use Rattle.rules.specs.Refusal.{Refusal, first_of}
use Rattle.rules.specs.Markup.{Attribute, lookup}
use Rattle.rules.specs.Judge.{Standing, is_top}
use Rattle.element.specs.Names.{name_at}
use Rattle.element.specs.Tags.{is_other, is_namespace}

-- the first fault of the attribute of a number, if there is one, where f are the faults of an attribute
abbrev pub fault_at : (Attribute → List Refusal) → List Attribute → ℕ → Option Refusal
fault_at f l n = if_some (lookup (name_at n) l) (λ v. first_of (f (record { name = name_at n; value = v }))) none

-- the name is not known, and not ignored where the element stands
abbrev pub is_strange : Standing → Attribute → Bool
is_strange p a = is_other a || (not (is_top p) && is_namespace a)
