-- The ways through the listing service.
use Prim.Native.Nat.{ℕ}
use mathlib.Core.Path.{◌≡◌, refl, sym, ◌∙◌}
use mathlib.Core.Bool.{Bool, true, false, not}
use mathlib.Core.List.{List, []}
use mathlib.Core.Option.{none, some}
use native.Mathlib.Omega.{arith}
use lib.IntN.{ℤ}
use Rattle.rules.specs.Refusal.{Refusal, OFFSET, TYPE, number, rank_in, first_of, Outcome, answered, refused, ◌when◌}
use Rattle.rules.specs.Markup.{Element}
use Rattle.rules.specs.Judge.{top_faults}
use Rattle.rules.specs.Check.{is_offset, shift_by, check}
use Rattle.rules.specs.Listing.{list_element}
use Rattle.rules.specs.ListingPromise.{is_listed}
use Rattle.rules.specs.Services.{packed, listing, room_of}
use Rattle.rules.proofs.Tests.{clash}
use Rattle.rules.proofs.Precedence.{check-refused}
use Rattle.rules.proofs.ListingCases.{listing-unlisted, listing-faulty, listing-faulty_early}
use Rattle.listing.specs.Answers.{listed_meant, Answers}
use Rattle.std.specs.Prelude.{Result}
use Rattle.refusal.specs.declared.Refusal.{Refusal as CodeRefusal}
use Rattle.listing.proofs.Serving.{Serves, serves_list}
use Rattle.rigcactus.specs.Faults.{typed_faults}
use Rattle.rigcactus.proofs.Checking.{record_offset}
use Rattle.rigcactus.proofs.TypedFaults.{split, type-fault, typed-accepted}

module _ (offset : ℤ) (input list : List ℕ) where
  serves : {q : Refusal} → listing offset (room_of list) input ≡ refused q → Serves offset input list (number q) list
  serves h = record { answers = rw h; leaves = rw h }

  pub list-offset : is_offset offset ≡ false → Serves offset input list (number OFFSET) list
  unfolding rank_in
  list-offset e = serves (listing-faulty_early offset (room_of list) input OFFSET ((check-refused offset input OFFSET).1 (record_offset offset input e)) (omega arith))

  module _ {shift : ℕ} (fine : is_offset offset ≡ true) (by : shift ≡ shift_by offset) where
    pub list-refused : {q : Refusal} → some q ≡ first_of (typed_faults is_listed shift input) → Serves offset input list (number q) list
    unfolding first_of
    list-refused {q} h = go (check offset input) refl
      where
        typed : (e : Element) → check offset input ≡ answered e → (b : Bool) → is_listed e ≡ b → some q ≡ first_of (TYPE when not b) → Serves offset input list (number q) list
        typed e a true l z = clash (cc)
        typed e a false l z = let w : TYPE ≡ q = cc in rw (← w) (serves (listing-unlisted offset (room_of list) input e a l))

        go : (o : Outcome Element) → check offset input ≡ o → Serves offset input list (number q) list
        go (refused r) f = serves (listing-faulty offset (room_of list) input r f (sym (split is_listed offset input fine by h ∙ rw ((check-refused offset input r).0 f))))
        go (answered e) a = typed e a (is_listed e) refl (type-fault is_listed offset input fine by e a h)

    pub list-answered : {r : Result ℕ CodeRefusal} {after : List ℕ} → none ≡ first_of (typed_faults is_listed shift input)
        → ((e : Element) → check offset input ≡ answered e → top_faults shift e ≡ [] → is_listed e ≡ true → Answers (list_element shift (room_of list) e) list r after)
        → Serves offset input list (packed (λ n. n) (listed_meant r)) after
    list-answered {r} {after} h tells =
        let (e, a, l) = typed-accepted is_listed offset input fine by h in
        serves_list offset input list e a l r after (rw (← by) (tells e a))
