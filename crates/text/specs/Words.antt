-- Eight bytes taken together as one number, in the words of the rules.
use Rattle.std.specs.Prelude.{ℕ, ◌≡◌, true, false, List, length, take, drop, Option, Some, None}
use Rattle.rules.specs.Basics.{every, is_digit, decimal}
use Rattle.rules.specs.LentLists.{is_byte}

abbrev pub AreEight : List ℕ → Type 0
AreEight l = (length l ≡ 8) × (every is_byte l ≡ true)

-- eight digits by twos, or a byte among them that is none
abbrev pub PairsOf : List ℕ → Option (ℕ × ℕ × ℕ × ℕ) → Type 0
PairsOf l (Some (a, b, c, d)) =
    (every is_digit l ≡ true) × (a ≡ decimal (take 2 l)) × (b ≡ decimal (take 2 (drop 2 l))) × (c ≡ decimal (take 2 (drop 4 l)))
    × (d ≡ decimal (take 2 (drop 6 l)))
PairsOf l None = every is_digit l ≡ false
