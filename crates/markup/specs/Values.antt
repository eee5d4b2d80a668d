-- The characters of a value at a position, in the words of the rules ("Markup").
use Rattle.std.specs.Prelude.{ℕ, ◌+◌, ◌≤◌, ◌<◌, ◌≡◌, Bool, not, ◌&&◌, List, eqb, length, drop, Option, Some, None}
use Rattle.rules.specs.Parsers.{Parser, bad, ok, pure, ◌>>◌, literal}
use Rattle.rules.specs.Markup.{is_plain, text}
use Rattle.text.specs.Reads.{Reads}

-- the character that P reads at a position stands for the byte c, and ends at e; or P reads none there
pub data CharBy (P : Parser ℕ) (s : List ℕ) (at : ℕ) : Option (ℕ × ℕ) → Type 0 where
  char_is : (c e : ℕ) → at < e → e ≤ length s → P (drop at s) ≡ ok c (drop e s) → CharBy P s at (Some (c, e))
  no_char : P (drop at s) ≡ bad → CharBy P s at None

-- the bytes t, which stand for the byte c
abbrev pub stands_for : (t : List ℕ) → (c : ℕ) → Parser ℕ
stands_for t c = literal t >> pure c

-- a byte that is a character by itself, whatever follows it, and is not the quote
abbrev pub is_simple : ℕ → Bool
is_simple c = is_plain c && not (eqb c 34) && not (eqb c 0xEF)

-- the answer on the characters from a position on, with any fuel that is enough
abbrev pub ReadsText : List ℕ → (at : ℕ) → Option ℕ → Type 0
ReadsText s at r = (f : ℕ) → length s ≤ at + f → Reads 1 (text f) s at r

-- between a position and i there are characters only: an answer on those from i on is one on those from the position on
pub record TextOn (s : List ℕ) (at i : ℕ) : Type 0 where
  pub low : at ≤ i
  pub high : i ≤ length s
  pub on : (r : Option ℕ) → ReadsText s i r → ReadsText s at r
