-- Attributes as most are written: a known name with `="` right after it ("Markup").
use Rattle.std.specs.Prelude.{ℕ, ◌-◌, ◌<◌, ◌≡◌, true, List, ◌++◌, length, take, drop, Option, Some, None}
use Rattle.std.specs.Bool.{then_some}
use Rattle.rules.specs.Basics.{bytes, begins}
use Rattle.rules.specs.Parsers.{bad}
use Rattle.rules.specs.Markup.{name}
use Rattle.text.specs.Reads.{Good}
use Rattle.element.specs.Names.{known, name_at, number_of}
use Rattle.element.specs.Carried.{PastEquals}
use Rattle.element.specs.declared.name.Plain.{Plain}
use Rattle.element.specs.declared.tag.Start.{Start}

-- a number and a size, if a text stands at a position
abbrev pub PlainIf : List ℕ → ℕ → (text : List ℕ) → (number size : ℕ) → Option Plain → Type 0
PlainIf s at text number size r = r ≡ then_some (begins text (drop at s)) (record { number = number; size = size })

-- a known name, by its number, and its size: it stands at a position, and `="` after it; or not all are looked for
pub data PlainAt (s : List ℕ) (at : ℕ) : Option Plain → Type 0 where
  plain_is : (p : Plain) → p.number < known → begins (name_at p.number ++ bytes "=\"") (drop at s) ≡ true → p.size ≡ length (name_at p.number) → PlainAt s at (Some p)
  not_plain : PlainAt s at None

-- the attribute that begins at a position, or no name stands there
abbrev pub StartAt : List ℕ → ℕ → Option Start → Type 0
StartAt s at (Some t) = Good 1 name s at t.name_end × PastEquals s t.name_end t.value × (t.number ≡ number_of (take (t.name_end - at) (drop at s)))
StartAt s at None = name (drop at s) ≡ bad
