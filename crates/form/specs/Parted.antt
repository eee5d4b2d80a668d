-- The parts of a text between the bytes b, by position, in the words of the rules.
use Rattle.std.specs.Prelude.{ℕ, ◌-◌, ◌≤◌, ◌≡◌, List, [], ◌∷◌, length, take, drop}
use Rattle.rules.specs.Basics.{split}

-- the parts after one, where s is the text from its end on
unfoldable pub following : ℕ → List ℕ → List (List ℕ)
following b [] = []
following b (c ∷ s) = split b s

-- the part that begins at a position ends at e
pub record PartAt (b : ℕ) (t : List ℕ) (from e : ℕ) : Type 0 where
  pub low : from ≤ e
  pub high : e ≤ length t
  pub is : split b (drop from t) ≡ take (e - from) (drop from t) ∷ following b (drop e t)
