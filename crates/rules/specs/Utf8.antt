-- 01-scope.md, "Cutting a text", and NOT UTF-8 of "The refusal ladder" (RFC 3629, section 4).
use Rattle.std.specs.Prelude.{ℕ, zero, suc, min, Bool, true, false, ◌&&◌, cond, List, [], ◌∷◌, length, take}
use Rattle.std.proofs.Math.Option.{Option}
use Rattle.rules.specs.Basics.{if_some, is_from, find}

-- the bytes from .. to
pub record Range : Type 0 where
  pub low : ℕ
  pub high : ℕ

infix 90 ◌to◌
abbrev pub ◌to◌ : ℕ → ℕ → Range
a to b = record { low = a; high = b }

abbrev pub in_range : ℕ → Range → Bool
in_range c r = is_from r.low r.high c

-- lead bytes, and the ranges of the bytes that follow one
pub record Lead : Type 0 where
  pub lead : Range
  pub next : List Range

infix 20 ◌then◌
abbrev pub ◌then◌ : Range → List Range → Lead
r then l = record { lead = r; next = l }

-- a byte that goes on with a character
abbrev pub tail : Range
tail = 0x80 to 0xBF

abbrev pub leads : List Lead
leads =
    (0x00 to 0x7F then [])
    ∷ (0xC2 to 0xDF then tail ∷ [])
    ∷ (0xE0 to 0xE0 then 0xA0 to 0xBF ∷ tail ∷ [])
    ∷ (0xE1 to 0xEC then tail ∷ tail ∷ [])
    ∷ (0xEE to 0xEF then tail ∷ tail ∷ [])
    ∷ (0xED to 0xED then 0x80 to 0x9F ∷ tail ∷ [])
    ∷ (0xF0 to 0xF0 then 0x90 to 0xBF ∷ tail ∷ tail ∷ [])
    ∷ (0xF1 to 0xF3 then tail ∷ tail ∷ tail ∷ [])
    ∷ (0xF4 to 0xF4 then 0x80 to 0x8F ∷ tail ∷ tail ∷ [])
    ∷ []

unfoldable pub lead_of : ℕ → Option Lead
lead_of c = find (λ l. in_range c l.lead) leads

-- the bytes are one in each of these ranges, and then whole characters
unfoldable pub follows : List Range → List ℕ → Bool
follows [] [] = true
follows (r ∷ l) [] = false
follows (r ∷ l) (c ∷ s) = in_range c r && follows l s
follows [] (c ∷ s) = if_some (lead_of c) (λ l. follows l.next s) false

-- the bytes are whole characters
abbrev pub is_utf8 : List ℕ → Bool
is_utf8 = follows []

-- the length of the longest beginning that is whole characters, of n bytes at most
unfoldable pub longest : ℕ → List ℕ → ℕ
longest zero text = zero
longest (suc n) text = let shorter = longest n text in cond (is_utf8 (take (suc n) text)) (suc n) shorter

-- the longest beginning that is whole characters and at most the room
abbrev pub cut_length : (room : ℕ) → List ℕ → ℕ
cut_length room text = longest (min room (length text)) text
