-- Digits at a position of a text, in the words of the rules.
use Rattle.std.specs.Prelude.{ℕ, ◌+◌, ◌^◌, ◌≤◌, ◌<◌, ◌≡◌, true, List, [], length, take, drop, Option, Some, None}
use Rattle.rules.specs.Basics.{every, is_digit}
use Rattle.rules.specs.Parsers.{Parser, bad, ok, pure, ◌or◌, one}
use Rattle.rules.specs.Timestamp.{digits, point, ten_thousandths}
use Rattle.text.specs.declared.digits.Fraction.{Fraction}

-- n digits stand at a position, and, if n is less than `most`, no further one
pub record Counted (s : List ℕ) (at most n : ℕ) : Type 0 where
  pub few : n ≤ most
  pub high : at + n ≤ length s
  pub digits : every is_digit (take n (drop at s)) ≡ true
  pub stop : n < most → one is_digit (drop (at + n) s) ≡ bad

-- what reading the number of n digits at a position finds
abbrev pub NumberAt : List ℕ → (at n : ℕ) → Option ℕ → Type 0
NumberAt s at n (Some v) = (at + n ≤ length s) × (v < 10 ^ n) × (digits n (drop at s) ≡ ok v (drop (at + n) s))
NumberAt s at n None = digits n (drop at s) ≡ bad

-- what a parser of the digits after a point reads at a position
pub record FractionBy (P : Parser (List ℕ)) (s : List ℕ) (at : ℕ) (f : Fraction) : Type 0 where
  pub list : List ℕ
  pub reads : P (drop at s) ≡ ok list (drop f.end s)
  pub value : f.value ≡ ten_thousandths list
  pub count : f.count ≡ length list
  pub few : f.count ≤ 4
  pub small : f.value < 10_000
  pub high : f.end ≤ length s

-- a point with digits, or none
abbrev pub FractionAt : List ℕ → (at : ℕ) → Fraction → Type 0
FractionAt = FractionBy (point or pure [])
