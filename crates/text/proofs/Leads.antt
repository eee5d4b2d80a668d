-- The lead bytes of UTF-8, range by range: which ranges the bytes after one lie in.
use Prim.Native.Nat.{ℕ, ◌≤◌, ◌<◌}
use mathlib.Core.Path.{◌≡◌, refl, ap, ◌∙◌}
use mathlib.Core.Bool.{Bool, true, false, ◌&&◌, and-false}
use mathlib.Core.List.{List, [], ◌∷◌}
use mathlib.Core.Option.{Option, none, some}
use lib.Dec.{leb}
use lib.ListN.{drop}
use native.Mathlib.Omega.{arith}
use borrow.Author.Tests.{le-leb, lt-leb, leb-true, leb-false}
use Rattle.rules.specs.Basics.{if_some, is_from, find}
use Rattle.rules.specs.Utf8.{Range, in_range, Lead, tail, leads, lead_of}
use Rattle.text.specs.Characters.{followers}

pub inside : (low high c : ℕ) → low ≤ c → c ≤ high → is_from low high c ≡ true
inside low high c l h = rw (le-leb low c l, le-leb c high h) refl

pub below : (low high c : ℕ) → c < low → is_from low high c ≡ false
below low high c l = rw (lt-leb low c l) refl

pub above : (low high c : ℕ) → high < c → is_from low high c ≡ false
above low high c h = ap (λ (b : Bool). leb low c && b) (lt-leb c high h) ∙ and-false (leb low c)

-- the same, by a table
followers_in : List Lead → ℕ → Option (List Range)
followers_in table c = if_some (find (λ l. in_range c l.lead) table) (λ l. some l.next) none

pub leads_alone : (c : ℕ) → c < 128 → some [] ≡ followers c
unfolding followers lead_of find
leads_alone c h = rw (inside 0x00 0x7F c (omega arith) (omega arith)) refl

pub leads-two : (c : ℕ) → 0xC2 ≤ c → c < 0xE0 → some (tail ∷ []) ≡ followers c
unfolding followers lead_of find
leads-two c l h = rw (above 0x00 0x7F c (omega arith), inside 0xC2 0xDF c (omega arith) (omega arith)) refl

-- past the entries of the table that end before a byte
past_two : (c : ℕ) → 0xE0 ≤ c → followers c ≡ followers_in (drop 2 leads) c
unfolding followers followers_in lead_of find
past_two c h = rw (above 0x00 0x7F c (omega arith), above 0xC2 0xDF c (omega arith)) refl

past_three : (c : ℕ) → 0xF0 ≤ c → followers c ≡ followers_in (drop 6 leads) c
unfolding followers_in find
past_three c h = past_two c (omega arith)
    ∙ rw (above 0xE0 0xE0 c (omega arith), above 0xE1 0xEC c (omega arith), above 0xEE 0xEF c (omega arith), above 0xED 0xED c (omega arith)) refl

pub leads-three : (c : ℕ) → 0xE0 ≤ c → c < 0xF0 → (c ≡ 0xE0 → ⊥) → (c ≡ 0xED → ⊥) → some (tail ∷ tail ∷ []) ≡ followers c
unfolding followers_in find
leads-three c l h e d = rw (past_two c l, above 0xE0 0xE0 c (omega arith)) (go (leb c 0xEC) refl)
  where
    go : (b : Bool) → leb c 0xEC ≡ b → some (tail ∷ tail ∷ []) ≡ followers_in (drop 3 leads) c
    go true q = rw (inside 0xE1 0xEC c (omega arith) (leb-true c 0xEC q)) refl
    go false q = rw (above 0xE1 0xEC c (leb-false c 0xEC q), inside 0xEE 0xEF c (omega (arith, leb-false c 0xEC q)) (omega arith)) refl

pub leads_four : (c : ℕ) → 0xF0 ≤ c → c < 0xF4 → (c ≡ 0xF0 → ⊥) → some (tail ∷ tail ∷ tail ∷ []) ≡ followers c
unfolding followers_in find
leads_four c l h e = rw (past_three c l, above 0xF0 0xF0 c (omega arith), inside 0xF1 0xF3 c (omega arith) (omega arith)) refl

-- 80-C1
pub leads-nothing-low : (c : ℕ) → 0x80 ≤ c → c < 0xC2 → none ≡ followers c
unfolding followers lead_of find
leads-nothing-low c l h =
    rw (
      above 0x00 0x7F c (omega arith),
      below 0xC2 0xDF c (omega arith),
      below 0xE0 0xE0 c (omega arith),
      below 0xE1 0xEC c (omega arith),
      below 0xEE 0xEF c (omega arith),
      below 0xED 0xED c (omega arith),
      below 0xF0 0xF0 c (omega arith),
      below 0xF1 0xF3 c (omega arith),
      below 0xF4 0xF4 c (omega arith),
    ) refl

-- F5-FF
pub leads-nothing-high : (c : ℕ) → 0xF5 ≤ c → none ≡ followers c
unfolding followers_in find
leads-nothing-high c l = rw (past_three c (omega arith), above 0xF0 0xF0 c (omega arith), above 0xF1 0xF3 c (omega arith), above 0xF4 0xF4 c (omega arith)) refl
