-- 01-scope.md, "Markup".
use Rattle.std.specs.Prelude.{ℕ, zero, suc, Bool, true, not, ◌&&◌, ◌||◌, cond, List, [], ◌∷◌, leb, eqb}
use Rattle.std.proofs.Math.Option.{Option, none, some}
use Rattle.rules.specs.Basics.{is_some, bytes, same, is_from, is_digit}
use Rattle.rules.specs.Parsers.{Parser, pure, guard, fail, ◌>>=◌, ◌>>◌, ◌or◌, without, one, many, byte, literal, sized, whole}

-- space, tab, CR and LF
abbrev pub is_space : ℕ → Bool
is_space c = eqb c 32 || eqb c 9 || eqb c 13 || eqb c 10

abbrev pub space : Parser (List ℕ)
space = many is_space

-- at least one byte of white space
unfoldable pub some_space : Parser (List ℕ)
some_space = one is_space >> space

-- an ASCII letter or underscore
abbrev pub is_name_start : ℕ → Bool
is_name_start c = is_from 65 90 c || is_from 97 122 c || eqb c 95

-- a letter, digit, `.`, `_`, `-` or `:`
abbrev pub is_name_byte : ℕ → Bool
is_name_byte c = is_name_start c || is_digit c || eqb c 46 || eqb c 45 || eqb c 58

unfoldable pub name : Parser (List ℕ)
name = do
  c ← one is_name_start
  cs ← many is_name_byte
  pure (c ∷ cs)

-- `&` only in these five, which stand for one byte each
unfoldable pub reference : Parser ℕ
reference =
    (literal (bytes "&amp;") >> pure 38)
    or (literal (bytes "&lt;") >> pure 60)
    or (literal (bytes "&gt;") >> pure 62)
    or (literal (bytes "&quot;") >> pure 34)
    or (literal (bytes "&apos;") >> pure 39)

-- U+FFFE or U+FFFF
unfoldable pub noncharacter : Parser (Unit {0})
noncharacter = literal (0xEF ∷ 0xBF ∷ 0xBE ∷ []) or literal (0xEF ∷ 0xBF ∷ 0xBF ∷ [])

-- a byte that stands for itself in a value: no `<`, no byte under 32, no `&`
abbrev pub is_plain : ℕ → Bool
is_plain c = leb 32 c && not (eqb c 60) && not (eqb c 38)

unfoldable pub char : Parser ℕ
char = without noncharacter >> (one is_plain or reference)

-- a value, decoded, up to the quote that ends it; `fuel` is at least the bytes left
unfoldable pub text : (fuel : ℕ) → Parser (List ℕ)
text zero = fail
text (suc f) =
    (byte 34 >> pure [])
    or (do
      c ← char
      cs ← text f
      pure (c ∷ cs))

-- a value in double quotes
unfoldable pub value : Parser (List ℕ)
value = byte 34 >> sized text

pub record Attribute : Type 0 where
  pub name : List ℕ
  pub value : List ℕ

unfoldable pub attribute : Parser Attribute
attribute = do
  n ← name
  space
  byte 61
  space
  v ← value
  pure (record { name = n; value = v })

-- attributes, with white space before each; `fuel` is at least the bytes left
unfoldable pub attributes : (fuel : ℕ) → Parser (List Attribute)
attributes zero = pure []
attributes (suc f) =
    (do
      some_space
      a ← attribute
      as' ← attributes f
      pure (a ∷ as'))
    or pure []

-- the decoded text of the attribute of a name
unfoldable pub lookup : List ℕ → List Attribute → Option (List ℕ)
lookup n [] = none
lookup n (a ∷ as') = cond (same a.name n) (some a.value) (lookup n as')

-- an attribute occurs once per element
unfoldable pub is_distinct : List Attribute → Bool
is_distinct [] = true
is_distinct (a ∷ as') = not (is_some (lookup a.name as')) && is_distinct as'

unfoldable pub tag_attributes : Parser (List Attribute)
tag_attributes = do
  as' ← sized attributes
  guard (is_distinct as')
  pure as'

-- elements side by side: the first one's name, attributes and children, and the elements after it
pub data Nodes : Type 0 where
  end : Nodes
  node : (name : List ℕ) → (attrs : List Attribute) → (kids : Nodes) → (rest : Nodes) → Nodes

pub record Element : Type 0 where
  pub name : List ℕ
  pub attrs : List Attribute
  pub kids : Nodes

-- end tags match
unfoldable pub end_tag : List ℕ → Parser ℕ
end_tag n = literal (bytes "</") >> literal n >> space >> byte 62

-- what follows the attributes of an element named n, whose content p reads
abbrev pub body : List ℕ → Parser Nodes → Parser Nodes
body n p =
    (literal (bytes "/>") >> pure end)
    or (do
      byte 62
      kids ← p
      end_tag n
      pure kids)

unfoldable mutual
  -- an element, where `depth` may be open at once; `fuel` is at least the bytes left
  pub element : (fuel depth : ℕ) → Parser Element
  element zero d = fail
  element (suc f) zero = fail
  element (suc f) (suc d) = do
    byte 60
    n ← name
    as' ← tag_attributes
    space
    kids ← body n (content f d)
    pure (record { name = n; attrs = as'; kids = kids })

  -- elements side by side, and nothing but white space around them; `fuel` is more than the bytes left
  pub content : (fuel depth : ℕ) → Parser Nodes
  content zero d = pure end
  content (suc f) d = do
    space
    (do
      e ← element f d
      rest ← content f d
      pure (node e.name e.attrs e.kids rest)) or pure end

-- one element with white space around it, at most 8 open at once
unfoldable pub document : List ℕ → Option Element
document = whole (do
  space
  e ← sized (λ n. element n 8)
  space
  pure e)
