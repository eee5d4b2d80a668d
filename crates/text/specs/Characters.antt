-- Whole characters at a position of a text, in the words of the rules ("Cutting a text").
use Rattle.std.specs.Prelude.{ℕ, suc, ◌≤◌, ◌≡◌, Bool, true, false, ◌&&◌, cond, List, [], ◌∷◌, ltb, length, drop}
use Rattle.std.proofs.Math.Option.{Option, none, some}
use Rattle.rules.specs.Basics.{if_some}
use Rattle.rules.specs.Utf8.{Range, ◌to◌, in_range, tail, lead_of, is_utf8}
use Rattle.text.specs.declared.Lead.{Lead}
use Rattle.text.specs.declared.Lead.TheVariants.{Alone, Two, Three, Four, Nothing}

-- the ranges of the bytes that follow a lead byte; none if it leads nothing
unfoldable pub followers : ℕ → Option (List Range)
followers c = if_some (lead_of c) (λ l. some l.next) none

-- the same, as the code classes lead bytes
abbrev pub class_followers : Lead → Option (List Range)
class_followers Alone = some []
class_followers Two = some (tail ∷ [])
class_followers (Three low high) = some (low to high ∷ tail ∷ [])
class_followers (Four low high) = some (low to high ∷ tail ∷ tail ∷ [])
class_followers Nothing = none

-- the text begins with one byte in each of these ranges
unfoldable pub fill : List Range → List ℕ → Bool
fill [] s = true
fill (r ∷ l) [] = false
fill (r ∷ l) (c ∷ s) = in_range c r && fill l s

-- the length of the character that a text begins with, 0 if it begins with none
unfoldable pub char_length : List ℕ → ℕ
char_length [] = 0
char_length (c ∷ s) = if_some (followers c) (λ l. cond (fill l s) (suc (length l)) 0) 0

abbrev pub is_ascii : ℕ → Bool
is_ascii c = ltb c 128

-- between i and j there are whole characters only
pub record Skips (s : List ℕ) (i j : ℕ) : Type 0 where
  pub low : i ≤ j
  pub high : j ≤ length s
  pub whole : is_utf8 (drop i s) ≡ is_utf8 (drop j s)
