-- A desk's day: its answers told and counted by their numbers, and what they come to.
use Prim.Native.Nat.{ℕ, suc, ◌+◌, ◌*◌, ◌^◌}
use mathlib.Core.Path.{◌≡◌, refl, sym, ◌∙◌, ap}
use mathlib.Core.Logic.{◌↔◌}
use mathlib.Core.Bool.{Bool, true, false, not, ◌||◌, cond}
use native.Mathlib.Omega.{arith}
use borrow.Author.Tests.{eqb-true, ne_eqb}
use lib.Dec.{eqb}
use Rattle.rules.specs.Refusal.{Refusal, NO_ROW, TOTAL, DAMAGED, DAY_FULL, number, Outcome, answered, refused}
use Rattle.rules.specs.Services.{packed}
use Rattle.rules.specs.Totals.{Table, counted, Entry, null, money, is_counted}
use Rattle.rules.specs.TotalNumbers.{entry_number}
use Rattle.rules.specs.TotalDays.{Call, Posted, damaged, full, faulty, a_null, no_row, out_of_range, added, History, beginning, ◌then◌, reached, answers, is_added, is_null_answer, how_many, IsDay}
use Rattle.rules.proofs.Tests.{clash}
use Rattle.rules.proofs.Precedence.{found_by_number, number_injective}
use Rattle.rules.proofs.ListingPromise.{small}
use Rattle.rules.proofs.Totals.{reached-proper, reached-day, counts-add_up, never_damaged}
use Rattle.demands.specs.Totals.{told}

-- a refusal is told by its number
pub packed-number : (o : Outcome Entry) (r : Refusal) → packed entry_number o ≡ number r ↔ o ≡ refused r
packed-number (answered null) r = (λ e. clash (omega (arith, small r, e)), λ e. clash (cc))
packed-number (answered (money c z)) r = (λ e. clash (omega (arith, small r, e)), λ e. clash (cc))
packed-number (refused q) r = (λ e. ap refused (number_injective q r e), λ e. let z : q ≡ r = cc in ap number z)

-- a refusal's number is no entry's
no_entry : (r : Refusal) → (eqb (number r) (1 * 2 ^ 8) ≡ false) × (eqb (number r) (2 * 2 ^ 8) ≡ false)
no_entry r = let l = small r in (ne_eqb (number r) (1 * 2 ^ 8) (λ e. omega arith), ne_eqb (number r) (2 * 2 ^ 8) (λ e. omega arith))

-- an answer is told as it is
told_refusal : (k : Call) (r : Refusal) → told k (number r) ≡ refused r
told_refusal k r = rw ((no_entry r).0, (no_entry r).1, found_by_number r)

pub told_is : (k : Call) (t : Table) {o : Outcome Entry} → Posted k t o → told k (packed entry_number o) ≡ o
told_is k t (damaged d) = told_refusal k DAMAGED
told_is k t (full d f) = told_refusal k DAY_FULL
told_is k t (faulty u {r = r} h) = told_refusal k r
told_is k t (a_null u h) = refl
told_is k t (no_row u h n) = told_refusal k NO_ROW
told_is k t (out_of_range u h n i) = told_refusal k TOTAL
told_is k t (added u h n i) = h

-- answers counted by their numbers
said-added : (o : Outcome Entry) → eqb (packed entry_number o) (1 * 2 ^ 8) ≡ is_added o
said-added (answered null) = refl
said-added (answered (money c z)) = refl
said-added (refused r) = (no_entry r).0

said-null : (o : Outcome Entry) → eqb (packed entry_number o) (2 * 2 ^ 8) ≡ is_null_answer o
said-null (answered null) = refl
said-null (answered (money c z)) = refl
said-null (refused r) = (no_entry r).1

-- one that is not counted is 21 or 25, and not both
abbrev one-or-none : Bool → ℕ
one-or-none b = cond b 1 0

one_of_three : (o : Outcome Entry)
    → one-or-none (is_counted o) + one-or-none (eqb (packed entry_number o) 21) + one-or-none (eqb (packed entry_number o) 25) ≡ 1
one_of_three (answered null) = refl
one_of_three (answered (money c z)) = refl
one_of_three (refused r) = go (eqb (number r) 21) (eqb (number r) 25) refl refl
  where
    go : (a b : Bool) → eqb (number r) 21 ≡ a → eqb (number r) 25 ≡ b → one-or-none (not (a || b)) + one-or-none a + one-or-none b ≡ 1
    go true true e f = clash (omega (arith, eqb-true (number r) 21 e, eqb-true (number r) 25 f))
    go true false e f = refl
    go false true e f = refl
    go false false e f = refl

more : {A : Type 0} (p : A → Bool) (h : History A) (a : A) → how_many p (h then a) ≡ how_many p h + one-or-none (p a)
unfolding how_many
more p h a = go (p a)
  where
    go : (b : Bool) → cond b (suc (how_many p h)) (how_many p h) ≡ how_many p h + one-or-none b
    go true = omega arith
    go false = omega arith

-- with 21 and 25, the answers counted are all
all-counted : (a : History (Outcome Entry))
    → how_many is_counted a + how_many (λ o. eqb (packed entry_number o) 21) a + how_many (λ o. eqb (packed entry_number o) 25) a ≡ how_many (λ o. true) a
unfolding how_many
all-counted beginning = refl
all-counted (a then o) =
    omega (arith, all-counted a, one_of_three o, more is_counted a o, more (λ o. eqb (packed entry_number o) 21) a o, more (λ o. eqb (packed entry_number o) 25) a o, more (λ o. true) a o)

-- answers by their numbers
unfoldable pub numbers_of : History (Outcome Entry) → History ℕ
numbers_of beginning = beginning
numbers_of (a then o) = numbers_of a then packed entry_number o

said-many : (p : ℕ → Bool) (q : Outcome Entry → Bool) → ((o : Outcome Entry) → p (packed entry_number o) ≡ q o) → (a : History (Outcome Entry))
    → how_many p (numbers_of a) ≡ how_many q a
unfolding numbers_of how_many
said-many p q e beginning = refl
said-many p q e (a then o) = rw (e o, said-many p q e a)

-- a table that calls have reached from an empty one is what their answers come to
pub is-day : (g : History Call) {t : Table} {said : History ℕ} {told : History (Outcome Entry)}
    → t ≡ reached g → said ≡ numbers_of (answers g) → told ≡ answers g → IsDay t said told
is-day g e f w =
    let a = answers g in
    rw (e, f, w) (record {
      totals = ap (λ t. t.rows) (reached-day g);
      added = ap (λ t. t.counts.added) (reached-day g) ∙ sym (said-many _ is_added said-added a);
      null = ap (λ t. t.counts.null) (reached-day g) ∙ sym (said-many _ is_null_answer said-null a);
      add_up =
          omega (arith, ap (λ t. counted t.counts) (reached-day g), counts-add_up a, all-counted a, said-many (λ a. eqb a 21) (λ o. eqb (packed entry_number o) 21) (λ o. refl) a, said-many (λ a. eqb a 25) (λ o. eqb (packed entry_number o) 25) (λ o. refl) a, said-many (λ a. true) (λ o. true) (λ o. refl) a);
      in_range = (reached-proper g).within;
      undamaged = never_damaged g;
    })

-- what is counted is all that was said, save 21 and 25
said-counted : (o : Outcome Entry) → not (eqb (packed entry_number o) 21 || eqb (packed entry_number o) 25) ≡ is_counted o
said-counted (answered null) = refl
said-counted (answered (money c z)) = refl
said-counted (refused r) = refl

pub day-counted : (g : History Call) → counted (reached g).counts ≡ how_many (λ a. not (eqb a 21 || eqb a 25)) (numbers_of (answers g))
day-counted g = ap (λ t. counted t.counts) (reached-day g) ∙ counts-add_up (answers g) ∙ sym (said-many (λ a. not (eqb a 21 || eqb a 25)) is_counted said-counted (answers g))
