-- Bytes at a position of lent memory.
use Rattle.std.specs.Prelude.{ℕ, ◌+◌, ◌≤◌, ◌≡◌, List, ◌++◌, length, take, drop}

-- these bytes at a position of memory, in place of as many others
abbrev pub placed : (at : ℕ) → (new old : List ℕ) → List ℕ
placed at new old = take at old ++ new ++ drop (at + length new) old

-- memory `after` is memory `before` with these bytes at a position; what is written next stands at `next`
pub record Put (at : ℕ) (new before : List ℕ) (next : ℕ) (after : List ℕ) : Type 0 where
  pub room : at + length new ≤ length before
  pub next_is : next ≡ at + length new
  pub bytes_are : after ≡ placed at new before
