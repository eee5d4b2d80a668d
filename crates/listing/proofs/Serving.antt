-- The listing service on a record that is accepted and of a type that can be listed: the packed answer and the lent list afterwards are those of the rules.
use Prim.Native.Nat.{ℕ}
use mathlib.Core.Path.{◌≡◌, refl, ap}
use mathlib.Core.Bool.{true}
use mathlib.Core.List.{List, []}
use lib.ListN.{length}
use lib.IntN.{ℤ}
use Rattle.std.specs.Prelude.{Result, Ok, Err}
use Rattle.rules.specs.Refusal.{number, Outcome, answered, refused, ◌and_then◌}
use Rattle.rules.specs.Markup.{Element}
use Rattle.rules.specs.Judge.{top_faults}
use Rattle.rules.specs.Check.{shift_by, check}
use Rattle.rules.specs.Sets.{Interval}
use Rattle.rules.specs.Listing.{list_element}
use Rattle.rules.specs.Services.{packed, room_of, list_answer, list_after}
use Rattle.rules.specs.ListingPromise.{is_listed}
use Rattle.rules.proofs.Tests.{clash}
use Rattle.rules.proofs.ListingCases.{check_faultless, listing-listed}
use Rattle.refusal.specs.Meaning.{refusal_of}
use Rattle.refusal.specs.declared.Refusal.{Refusal}
use Rattle.listing.specs.Answers.{listed_meant, Answers}

packed-answer : (r : Result ℕ Refusal) (o : Outcome (List Interval)) → listed_meant r ≡ (o and_then λ ss. answered (length ss)) → packed (λ n. n) (listed_meant r) ≡ packed length o
packed-answer (Ok n) (answered ss) e = let z : n ≡ length ss = cc in rw z refl
packed-answer (Ok n) (refused q) e = clash (cc)
packed-answer (Err r) (answered ss) e = clash (cc)
packed-answer (Err r) (refused q) e = let z : refusal_of r ≡ q = cc in ap number z

module _ (offset : ℤ) (input list : List ℕ) where
  -- the service answers as the rules say, and leaves the list as they say
  pub record Serves (answer : ℕ) (after : List ℕ) : Type 0 where
    pub answers : answer ≡ list_answer offset input list
    pub leaves : after ≡ list_after offset input list

  pub serves_list : (e : Element) → check offset input ≡ answered e → is_listed e ≡ true → (r : Result ℕ Refusal) (after : List ℕ)
      → (top_faults (shift_by offset) e ≡ [] → is_listed e ≡ true → Answers (list_element (shift_by offset) (room_of list) e) list r after)
      → Serves (packed (λ n. n) (listed_meant r)) after
  serves_list e accepted l r after h =
      let a = h (check_faultless offset input accepted) l in
      let z = listing-listed offset (room_of list) input e accepted l in
      record { answers = rw z (packed-answer r (list_element (shift_by offset) (room_of list) e) a.answer); leaves = rw z a.lent }
