-- What is answered on an accepted record, from what is known of its set.
use Prim.Native.Nat.{ℕ, suc, ◌/◌, ◌≤◌, ◌<◌}
use mathlib.Core.Path.{◌≡◌, refl, sym, ap, ◌∙◌}
use mathlib.Core.Bool.{true, false}
use mathlib.Core.List.{List, [], ◌∷◌, flat_map, map}
use native.Mathlib.Omega.{arith}
use Rattle.std.specs.Prelude.{Ok, Err}
use lib.ListN.{length, length-take}
use Rattle.rules.specs.Refusal.{UNKNOWN_BOUND, TOO_MANY, NO_ROOM, Outcome, answered, refused}
use Rattle.rules.specs.Markup.{Element}
use Rattle.rules.specs.Judge.{top_faults}
use Rattle.rules.specs.Sets.{Interval as PageInterval, Expression}
use Rattle.rules.specs.Stretches.{stretches}
use Rattle.rules.specs.Listing.{set_of, intervals_written, list_element, list_numbers}
use Rattle.rules.specs.Services.{eight_bytes, overwrite, room_of}
use Rattle.rules.specs.ListingPromise.{is_listed}
use Rattle.rules.proofs.Tests.{clash}
use Rattle.rules.proofs.Members.{set-intervals, set-refused}
use Rattle.rules.proofs.ListingCases.{element_unclear, element_too_many, element_no_room, element-listing}
use Rattle.refusal.specs.declared.Refusal.TheVariants.{UnknownBound, TooMany, NoRoom}
use Rattle.interval.specs.declared.Interval.{Interval}
use Rattle.interval.specs.declared.Stretches.{Stretches}
use Rattle.interval.specs.Meaning.{interval_of, used, stretches_of}
use Rattle.interval.proofs.Unique.{stretches-meant}
use Rattle.listing.specs.declared.set.Evaluated.{Evaluated}
use Rattle.listing.specs.Sets.{Formed, IsSet, Says, is_set, is_unknown}
use Rattle.listing.specs.Answers.{Answers}

-- the stretches in use are as many as are counted
length_mapped : (l : List Interval) → length (map interval_of l) ≡ length l
length_mapped [] = refl
length_mapped (v ∷ l) = ap suc (length_mapped l)

used-count : (s : Stretches) → length s.items ≡ 32 → s.count ≤ 32 → length (stretches_of s) ≡ s.count
used-count s long h = length_mapped (used s) ∙ length-take s.count s.items ∙ omega (arith, long)

module _ (shift : ℕ) (e : Element) (before : List ℕ) where
  abbrev expected : Outcome (List PageInterval)
  expected = list_element shift (room_of before) e

module _ (shift : ℕ) (e : Element) (before : List ℕ) (faultless : top_faults shift e ≡ []) (listed : is_listed e ≡ true) {r : Evaluated} (says : Says (set_of shift e) r) where
  pub answers-unknown : r.known ≡ false → Answers (expected shift e before) before (Err UnknownBound) before
  answers-unknown f = go (set_of shift e) refl says
    where
      go : (o : Outcome Expression) → set_of shift e ≡ o → Says o r → Answers (expected shift e before) before (Err UnknownBound) before
      go (answered x) z (is_set s) = clash (cc s.known)
      go (refused q) z s =
          let d : expected shift e before ≡ refused UNKNOWN_BOUND = element_unclear shift (room_of before) e z ∙ ap refused (set-refused shift e faultless listed z) in
          rw d (record { answer = refl; lent = refl })

  module _ (known : r.known ≡ true) where
    the_set : (x : Expression) × (set_of shift e ≡ answered x) × IsSet x r
    the_set = go (set_of shift e) refl says
      where
        go : (o : Outcome Expression) → set_of shift e ≡ o → Says o r → (x : Expression) × (set_of shift e ≡ answered x) × IsSet x r
        go (answered x) z (is_set s) = (x, z, s)
        go (refused q) z (is_unknown s) = clash (cc)

    pub answers-many : 32 < r.count → Answers (expected shift e before) before (Err TooMany) before
    answers-many l =
        let (x, z, s) = the_set in
        let d : expected shift e before ≡ refused TOO_MANY = element_too_many shift (room_of before) e x z (omega (arith, s.count, set-intervals shift e faultless listed z)) in
        rw d (record { answer = refl; lent = refl })

    module _ (formed : Formed r) (few : r.count ≤ 32) (long : length r.set.items ≡ 32) where
      written-few : (x : Expression) → set_of shift e ≡ answered x → IsSet x r → intervals_written e ≤ 32
      written-few x z s = omega (arith, s.count, set-intervals shift e faultless listed z)

      the_stretches : (x : Expression) → IsSet x r → stretches_of r.set ≡ stretches x
      the_stretches x s = stretches-meant x r.set formed.canonical (s.places few)

      counted : (x : Expression) → IsSet x r → length (stretches x) ≡ r.set.count
      counted x s = sym (ap length (the_stretches x s)) ∙ used-count r.set long formed.canonical.fits

      pub answers_no_room : length before / 32 < r.set.count → Answers (expected shift e before) before (Err NoRoom) before
      answers_no_room l =
          let (x, z, s) = the_set in
          let d : expected shift e before ≡ refused NO_ROOM = element_no_room shift (room_of before) e x z (written-few x z s) (omega (arith, counted x s)) in
          rw d (record { answer = refl; lent = refl })

      pub answers-count : r.set.count ≤ length before / 32 → {after : List ℕ} → after ≡ overwrite before (flat_map eight_bytes (list_numbers (stretches_of r.set)))
          → Answers (expected shift e before) before (Ok r.set.count) after
      answers-count l h =
          let (x, z, s) = the_set in
          let d : expected shift e before ≡ answered (stretches x) = element-listing shift (room_of before) e x z (written-few x z s) (omega (arith, counted x s)) in
          rw d (record { answer = ap answered (sym (counted x s)); lent = rw (← the_stretches x s) h })
