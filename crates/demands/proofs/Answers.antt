-- The number and the result of a packed answer, and what an answer without a number says of the faults.
use Prim.Native.Nat.{ℕ}
use mathlib.Core.Path.{◌≡◌, refl, sym, ◌∙◌, ap, subst}
use mathlib.Core.Logic.{◌↔◌}
use mathlib.Core.Bool.{true}
use mathlib.Core.List.{List, [], append-eq-nil_iff, Memᴰ}
use mathlib.Core.Option.{Option, none, some}
use native.Mathlib.Omega.{arith}
use lib.IntN.{ℤ}
use Rattle.rules.specs.Basics.{exists}
use Rattle.rules.specs.Refusal.{Refusal, OFFSET, TOO_LONG, NOT_UTF_8, MARKUP, TYPE, SHAPE, VALUE, DATE, CLOCK, ZONE, RULE, UNKNOWN_BOUND, TOO_MANY, NOT_WRITABLE, NO_ROOM, NO_ROW, TOTAL, DAMAGED, NO_DESK, DAY_FULL, number, rank_in, first_of, Outcome, answered, refused, faults_of}
use Rattle.rules.specs.Timestamp.{Moment, read_timestamp}
use Rattle.rules.specs.Check.{shift_by}
use Rattle.rules.specs.Services.{packed}
use Rattle.rules.specs.ListingPromise.{number_in}
use Rattle.rules.proofs.Tests.{clash}
use Rattle.rules.proofs.Precedence.{number_injective, first-is, no_fault}
use Rattle.rules.proofs.CheckRefusals.{is_of_record, of_record}
use Rattle.rules.proofs.ListingPromise.{small, low_bits, count_bits}
use Rattle.demands.specs.Services.{is_among, Answers, accepts, refuses}
use Rattle.demands.specs.WrongTimes.{part_refusals}
use Rattle.demands.specs.Demands.{record_refusals, list_refusals, add_refusals, IsFirst, time_faults}

pub iff_trans : {A B C : Type 0} → (A ↔ B) → (B ↔ C) → A ↔ C
iff_trans f g = (λ a. g.0 (f.0 a), λ c. f.1 (g.1 c))

-- what checking may give, listing may give too, and adding if it is of no time
pub record_among : (r : Refusal) → is_of_record r ≡ true
    → (is_among record_refusals r ≡ true) × (is_among list_refusals r ≡ true) × ((Memᴰ r part_refusals → ⊥) → is_among add_refusals r ≡ true)
unfolding exists rank_in
record_among OFFSET h = (refl, refl, λ n. refl)
record_among TOO_LONG h = (refl, refl, λ n. refl)
record_among NOT_UTF_8 h = (refl, refl, λ n. refl)
record_among MARKUP h = (refl, refl, λ n. refl)
record_among TYPE h = (refl, refl, λ n. refl)
record_among SHAPE h = (refl, refl, λ n. refl)
record_among VALUE h = (refl, refl, λ n. refl)
record_among DATE h = (refl, refl, λ n. absurd (n (Memᴰ.head refl)))
record_among CLOCK h = (refl, refl, λ n. absurd (n (Memᴰ.tail (Memᴰ.head refl))))
record_among ZONE h = (refl, refl, λ n. absurd (n (Memᴰ.tail (Memᴰ.tail (Memᴰ.head refl)))))
record_among RULE h = (refl, refl, λ n. refl)
record_among UNKNOWN_BOUND h = clash (omega (arith, of_record UNKNOWN_BOUND h))
record_among TOO_MANY h = clash (omega (arith, of_record TOO_MANY h))
record_among NOT_WRITABLE h = clash (omega (arith, of_record NOT_WRITABLE h))
record_among NO_ROOM h = clash (omega (arith, of_record NO_ROOM h))
record_among NO_ROW h = clash (omega (arith, of_record NO_ROW h))
record_among TOTAL h = clash (omega (arith, of_record TOTAL h))
record_among DAMAGED h = clash (omega (arith, of_record DAMAGED h))
record_among NO_DESK h = clash (omega (arith, of_record NO_DESK h))
record_among DAY_FULL h = clash (omega (arith, of_record DAY_FULL h))

module _ {A : Type 0} (result : A → ℕ) where
  pub packed-refused : (o : Outcome A) (r : Refusal) → number_in (packed result o) ≡ number r ↔ o ≡ refused r
  packed-refused (answered a) r = (λ e. clash (omega (arith, small r, count_bits (result a), e)), λ e. clash (cc))
  packed-refused (refused q) r = (λ e. ap refused (number_injective q r (sym (low_bits q).0 ∙ e)), λ e. let z : q ≡ r = cc in rw z (low_bits r).0)

  pub packed-accepted : (o : Outcome A) → number_in (packed result o) ≡ 0 → (a : A) × (o ≡ answered a)
  packed-accepted (answered a) e = (a, refl)
  packed-accepted (refused r) e = clash (omega (arith, small r, low_bits r, e))

  pub packed-answers : {may : List Refusal} {Result : ℕ → Type 0} {Kept : Type 0} (o : Outcome A) → ((a : A) → o ≡ answered a → Result (result a))
      → ((r : Refusal) → o ≡ refused r → (is_among may r ≡ true) × Kept) → Answers may Result Kept (packed result o)
  packed-answers {Result = Result} (answered a) f g = accepts (count_bits (result a)).0 (subst Result (sym (count_bits (result a)).1) (f a refl))
  packed-answers (refused r) f g = refuses r (g r refl).0 (low_bits r).0 (low_bits r).1 (g r refl).1

-- an answer that has the number of the first fault has a number if there is a fault
module _ (faults : List Refusal) (answer : ℕ) (first : (r : Refusal) → number_in answer ≡ number r ↔ IsFirst r faults) where
  pub no_number : number_in answer ≡ 0 → faults ≡ []
  no_number e = (no_fault faults).0 (go _ refl)
    where
      go : (o : Option Refusal) → first_of faults ≡ o → o ≡ none
      go none f = refl
      go (some r) f = clash (omega (arith, small r, (first r).1 ((first-is faults r).0 f)))

-- a text without fault is read
pub faultless_read : (offset : ℤ) (text : List ℕ) → time_faults offset text ≡ [] → (m : Moment) × (read_timestamp (shift_by offset) text ≡ answered m)
faultless_read offset text f = go (read_timestamp (shift_by offset) text) refl ((append-eq-nil_iff {p = faults_of (read_timestamp (shift_by offset) text)}).0 f).0
  where
    go : (o : Outcome Moment) → read_timestamp (shift_by offset) text ≡ o → faults_of o ≡ [] → (m : Moment) × (read_timestamp (shift_by offset) text ≡ answered m)
    go (answered m) e g = (m, e)
    go (refused r) e g = clash (cc)
