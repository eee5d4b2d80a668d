-- What the answers of code that reads from a position of a text say of a grammar.
use Rattle.std.specs.Prelude.{ℕ, ◌+◌, ◌≤◌, ◌≡◌, List, length, drop, Option, Some, None}
use Rattle.rules.specs.Parsers.{Parser, bad, ok}

-- P reads from a position up to e, k bytes or more
pub record Good {A : Type 0} (k : ℕ) (P : Parser A) (s : List ℕ) (at e : ℕ) : Type 0 where
  pub low : at + k ≤ e
  pub high : e ≤ length s
  pub value : A
  pub reads : P (drop at s) ≡ ok value (drop e s)

-- the answer of a reader is what P says of the text from a position on
pub data Reads {A : Type 0} (k : ℕ) (P : Parser A) (s : List ℕ) (at : ℕ) : Option ℕ → Type 0 where
  upto : (e : ℕ) → Good k P s at e → Reads k P s at (Some e)
  none : P (drop at s) ≡ bad → Reads k P s at None
