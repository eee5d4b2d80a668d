-- Words that the other files use: optional values, tests over lists, texts, and the number that digits write.
use Rattle.std.specs.Prelude.{ℕ, zero, suc, ◌+◌, ◌-◌, ◌*◌, ◌/◌, ◌%◌, Bool, true, false, not, ◌&&◌, ◌||◌, cond, List, [], ◌∷◌, ◌++◌, leb, eqb}
use Prim.Native.Char.{code}
use Prim.Native.String.{String, [] as no_text, ◌∷◌ as ◌and_text◌}
use Rattle.std.proofs.Math.Option.{Option, none, some}

abbrev pub is_some : {A : Type 0} → Option A → Bool
is_some none = false
is_some (some a) = true

-- f of the value, or b if there is none
abbrev pub if_some : {A B : Type 0} → Option A → (A → B) → B → B
if_some none f b = b
if_some (some a) f b = f a

-- the value as a list of one, or the empty list
abbrev pub list_of : {A : Type 0} → Option A → List A
list_of none = []
list_of (some a) = a ∷ []

abbrev pub exactly_one : Bool → Bool → Bool
exactly_one true b = not b
exactly_one false b = b

-- the first of the list for which p holds
unfoldable pub find : {A : Type 0} → (A → Bool) → List A → Option A
find p [] = none
find p (a ∷ l) = cond (p a) (some a) (find p l)

-- p holds for one of the list; for all of the list
unfoldable pub exists : {A : Type 0} → (A → Bool) → List A → Bool
exists p [] = false
exists p (a ∷ l) = p a || exists p l

unfoldable pub every : {A : Type 0} → (A → Bool) → List A → Bool
every p [] = true
every p (a ∷ l) = p a && every p l

-- the bytes of a text in ASCII
abbrev pub bytes : String → List ℕ
bytes no_text = []
bytes (c and_text s) = code c ∷ bytes s

abbrev pub is_empty : List ℕ → Bool
is_empty [] = true
is_empty (c ∷ s) = false

-- two texts are the same, byte for byte
unfoldable pub same : List ℕ → List ℕ → Bool
same [] [] = true
same [] (d ∷ t) = false
same (c ∷ s) [] = false
same (c ∷ s) (d ∷ t) = eqb c d && same s t

-- the second text begins with the first
unfoldable pub begins : List ℕ → List ℕ → Bool
begins [] t = true
begins (c ∷ s) [] = false
begins (c ∷ s) (d ∷ t) = eqb c d && begins s t

-- a byte put before the first of some texts
abbrev pub onto : ℕ → List (List ℕ) → List (List ℕ)
onto c [] = (c ∷ []) ∷ []
onto c (w ∷ ws) = (c ∷ w) ∷ ws

-- the parts of a text between the bytes b: one more than there are such bytes
unfoldable pub split : ℕ → List ℕ → List (List ℕ)
split b [] = [] ∷ []
split b (c ∷ s) = cond (eqb c b) ([] ∷ split b s) (onto c (split b s))

-- the words of a text, parted by single spaces
abbrev pub words : List ℕ → List (List ℕ)
words = split 32

-- the text is one of the words listed
unfoldable pub one_of : String → List ℕ → Bool
one_of list text = exists (same text) (words (bytes list))

abbrev pub is_from : (low high : ℕ) → ℕ → Bool
is_from low high c = leb low c && leb c high

abbrev pub is_digit : ℕ → Bool
is_digit = is_from 48 57

-- the number that digits write, any count of them, where those before them write n
unfoldable pub decimal_from : ℕ → List ℕ → ℕ
decimal_from n [] = n
decimal_from n (d ∷ ds) = decimal_from (10 * n + (d - 48)) ds

abbrev pub decimal : List ℕ → ℕ
decimal = decimal_from 0

-- the other way: n digits of a number, the lowest last
unfoldable pub digits_of : (n : ℕ) → ℕ → List ℕ
digits_of zero k = []
digits_of (suc n) k = digits_of n (k / 10) ++ (48 + k % 10) ∷ []
