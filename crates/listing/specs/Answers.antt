-- What the code answers on a record and leaves in the lent list, in the words of the rules ("Sets of times").
use Rattle.std.specs.Prelude.{ℕ, ◌≤◌, ◌≡◌, length, Result, Ok, Err}
use mathlib.Core.List.{List, flat_map}
use Rattle.rules.specs.Refusal.{Outcome, answered, refused, ◌and_then◌}
use Rattle.rules.specs.Sets.{Interval}
use Rattle.rules.specs.Listing.{list_numbers}
use Rattle.rules.specs.Services.{lent_after, eight_bytes, overwrite}
use Rattle.refusal.specs.Meaning.{refusal_of}
use Rattle.refusal.specs.declared.Refusal.{Refusal}

-- the answer on a record: the count of stretches that were written, or a refusal
abbrev pub listed_meant : Result ℕ Refusal → Outcome ℕ
listed_meant (Ok n) = answered n
listed_meant (Err r) = refused (refusal_of r)

-- no more than 32 stretches are counted
abbrev pub Few : Result ℕ Refusal → Type 0
Few (Ok n) = n ≤ 32
Few (Err r) = Unit {0}

-- a refusal leaves the list as it was
abbrev pub Kept : Result ℕ Refusal → (before after : List ℕ) → Type 0
Kept (Ok n) before after = Unit {0}
Kept (Err r) before after = after ≡ before

-- the answer, and the lent list before and after, are those of these stretches or of this refusal
pub record Answers (o : Outcome (List Interval)) (before : List ℕ) (r : Result ℕ Refusal) (after : List ℕ) : Type 0 where
  pub answer : listed_meant r ≡ (o and_then λ ss. answered (length ss))
  pub lent : after ≡ lent_after (λ ss. overwrite before (flat_map eight_bytes (list_numbers ss))) o before
