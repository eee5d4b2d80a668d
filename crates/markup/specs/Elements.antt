-- What the readers of elements and of content answer, with any fuel that is enough, in the words of the rules ("Markup").
use Rattle.std.specs.Prelude.{ℕ, ◌+◌, ◌≤◌, ◌<◌, List, length, Option, Some}
use Rattle.rules.specs.Markup.{element, content}
use Rattle.text.specs.Reads.{Reads}

-- an element at a position, where so many may be open at once
abbrev pub ReadsElement : List ℕ → (at depth : ℕ) → Option ℕ → Type 0
ReadsElement s at d r = (f : ℕ) → length s ≤ at + f → Reads 1 (element f d) s at r

-- elements side by side from a position on, which end at e
abbrev pub ReadsContent : List ℕ → (at depth e : ℕ) → Type 0
ReadsContent s at d e = (f : ℕ) → length s < at + f → Reads 0 (content f d) s at (Some e)
