-- The names of a tag's attributes: the numbers made of them, and what a table of marks tells of a name.
use Rattle.std.specs.Prelude.{ℕ, zero, suc, ◌+◌, ◌-◌, ◌*◌, ◌/◌, ◌%◌, ◌<◌, ◌≡◌, Bool, false, ◌||◌, List, [], ◌∷◌, length, take, drop, get_or}
use Rattle.rules.specs.Basics.{same}
use Rattle.rules.specs.Markup.{some_space}
use Rattle.text.specs.Reads.{Good}
use Rattle.markup.specs.Attributes.{AttributeTo}
use Rattle.markup.specs.declared.marks.Spot.{Spot}
use Rattle.markup.specs.declared.marks.Spot.TheVariants.{Free, Marked, Full}

-- the slot of a name
abbrev pub slot_of : List ℕ → ℕ
slot_of n = (get_or n 0 0 + 3 * get_or n (length n - 1) 0 + 2 * ((length n - 1) % 64)) % 64

-- the number that is made of bytes, one after the other
abbrev pub mixed : ℕ → ℕ → ℕ
mixed h c = (h + c) * 40_503 % 1_048_576

unfoldable pub mix_of : ℕ → List ℕ → ℕ
mix_of h [] = h
mix_of h (c ∷ n) = mix_of (mixed h c) n

-- the mark of a name, by that number
abbrev pub mark_of : ℕ → ℕ
mark_of h = h % 255 + 1

-- the places of a name in a table, one after the other
abbrev pub next_place : ℕ → ℕ
next_place i = (i + 1) % 3_072

unfoldable pub place_of : (h : ℕ) → ℕ → ℕ
place_of h zero = h * 3 / 1_024
place_of h (suc c) = next_place (place_of h c)

-- at its first c places a name finds neither a free place nor its mark
abbrev pub Passes : (h : ℕ) → List ℕ → ℕ → Type 0
Passes h t c = (d : ℕ) → d < c → (get_or t (place_of h d) 0 ≡ 0 → ⊥) × (get_or t (place_of h d) 0 ≡ mark_of h → ⊥)

-- what a table tells of a name: the place after those is free, or has its mark; or nothing
pub data SpotFor (h : ℕ) (t : List ℕ) : Spot → Type 0 where
  free : (c i : ℕ) → place_of h c ≡ i → i < 3_072 → Passes h t c → get_or t i 0 ≡ 0 → SpotFor h t (Free i)
  marked : (c i : ℕ) → place_of h c ≡ i → Passes h t c → get_or t i 0 ≡ mark_of h → SpotFor h t Marked
  full : SpotFor h t Full

-- a name is among others
unfoldable pub is_among : List ℕ → List (List ℕ) → Bool
is_among n [] = false
is_among n (m ∷ k) = same n m || is_among n k

-- the names of the attributes from a position up to another
pub data NamesFrom (s : List ℕ) : (at to : ℕ) → List (List ℕ) → Type 0 where
  no_names : {at : ℕ} → NamesFrom s at at []
  more_names : {i j n q e to : ℕ} {k : List (List ℕ)} → Good 1 some_space s i j → AttributeTo s j n q e → NamesFrom s e to k → NamesFrom s i to (take (n - j) (drop j s) ∷ k)
