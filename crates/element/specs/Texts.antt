-- The decoded characters of a value at a position, in the words of the rules ("Markup").
use Rattle.std.specs.Prelude.{ℕ, ◌+◌, ◌≤◌, ◌<◌, ◌≡◌, Bool, true, false, not, List, [], ◌∷◌, eqb, length, drop, Option, Some, None}
use Rattle.rules.specs.Parsers.{ok}
use Rattle.rules.specs.Markup.{text}

-- a byte that is no quote
abbrev pub is_bare : ℕ → Bool
is_bare c = not (eqb c 34)

-- the characters from a position on stand for the bytes v
pub record TextAt (s : List ℕ) (at : ℕ) (v : List ℕ) : Type 0 where
  pub fuel : ℕ
  pub enough : length s ≤ at + fuel
  pub after : List ℕ
  pub reads : text fuel (drop at s) ≡ ok v after

-- an answer on characters: there is none; or the first stands for c, and the others stand from e on
pub data Chars (s : List ℕ) : List ℕ → Option (ℕ × ℕ) → Type 0 where
  no_chars : Chars s [] None
  chars : (c e : ℕ) (v : List ℕ) → TextAt s e v → Chars s (c ∷ v) (Some (c, e))

-- the position that an answer names lies further on
pub data CharOn (s : List ℕ) (at : ℕ) : Option (ℕ × ℕ) → Type 0 where
  no_char_on : CharOn s at None
  char_on : (c e : ℕ) → at < e → e ≤ length s → CharOn s at (Some (c, e))
