-- The attribute names that the type lines have, and nullFlavor and xsi:type, by number: one list ("Types, after decoding the five references").
use Rattle.std.specs.Prelude.{ℕ, suc, Bool, cond, List, [], ◌∷◌, ltb, length, get_or}
use Rattle.rules.specs.Basics.{bytes, same}

abbrev pub known_names : List (List ℕ)
known_names =
    bytes "value" ∷ bytes "nullFlavor" ∷ bytes "xsi:type" ∷ bytes "lowClosed" ∷ bytes "highClosed" ∷ bytes "currency" ∷ bytes "root"
    ∷ bytes "extension" ∷ bytes "code" ∷ bytes "codeSystem" ∷ bytes "codeSystemName" ∷ bytes "codeSystemVersion" ∷ bytes "type"
    ∷ bytes "qualifier" ∷ []

-- how many there are
abbrev pub known : ℕ
known = length known_names

abbrev pub name_at : ℕ → List ℕ
name_at n = get_or known_names n []

-- the number of a text among some that are numbered from k on; if it is not among them, the number after theirs
unfoldable pub number_from : (k : ℕ) → List ℕ → List (List ℕ) → ℕ
number_from k t [] = k
number_from k t (m ∷ l) = cond (same t m) k (number_from (suc k) t l)

abbrev pub number_of : List ℕ → ℕ
number_of t = number_from 0 t known_names

abbrev pub is_known : List ℕ → Bool
is_known t = ltb (number_of t) known
