-- The number of an answer.
use Rattle.std.specs.Prelude.{ℕ, Bool, true, false}

abbrev pub number : Bool → ℕ
number true = 1
number false = 0
