-- How an element begins, and not an end tag, in the words of the rules ("Markup").
use Rattle.std.specs.Prelude.{ℕ, Bool, false, not, ◌&&◌, List, [], ◌∷◌, eqb}

-- a text that begins with `<` and another byte than `/`
abbrev pub is_child : List ℕ → Bool
is_child [] = false
is_child (c ∷ []) = false
is_child (c ∷ d ∷ s) = eqb c 60 && not (eqb d 47)
