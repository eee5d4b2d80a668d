-- The derived order of the refusals is that of the ladder.
use Prim.Native.Nat.{ℕ, zero, suc, ◌<◌}
use mathlib.Core.Path.{◌≡◌, refl, sym, subst}
use mathlib.Core.Bool.{Bool, true, false, not, cond}
use mathlib.Core.List.{List, [], ◌∷◌}
use mathlib.Core.Option.{some}
use native.Mathlib.Omega.{arith}
use lib.Dec.{leb}
use lib.ListN.{length, get_or}
use Rattle.std.specs.Ordering.{ord_min, is_lt}
use Rattle.rules.specs.Refusal.{rank, rank_in, earlier}
use Rattle.rules.specs.Basics.{every}
use Rattle.rules.proofs.Precedence.{rank_below}
use Rattle.rules.proofs.Tests.{every_true}
use Rattle.refusal.specs.Meaning.{refusal_of}
use Rattle.refusal.specs.declared.Refusal.{Refusal}
use Rattle.refusal.specs.declared.Refusal.TheVariants.{Offset, TooLong, NotUtf8, Markup, «Type» as TypeFault, Shape, Value, Date, Clock, Zone, Rule as RuleFault, UnknownBound, TooMany, NotWritable, NoRoom, NoRow, Total, Damaged, NoDesk, DayFull}
use Rattle.refusal.specs.contracts.RefusalOrd.TheImpl.{cmp-value}

abbrev ladder : List Refusal
ladder =
    NoDesk ∷ Damaged ∷ DayFull ∷ Offset ∷ TooLong ∷ NotUtf8 ∷ Markup ∷ TypeFault ∷ Shape ∷ Value ∷ Date ∷ Clock ∷ Zone ∷ RuleFault ∷ UnknownBound ∷ TooMany
    ∷ NotWritable ∷ NoRoom ∷ NoRow ∷ Total ∷ []

abbrev place : Refusal → ℕ
place r = rank (refusal_of r)

-- each stands at its place
stands : (r : Refusal) → get_or ladder (place r) NoDesk ≡ r
unfolding rank_in
stands NoDesk = refl
stands Damaged = refl
stands DayFull = refl
stands Offset = refl
stands TooLong = refl
stands NotUtf8 = refl
stands Markup = refl
stands TypeFault = refl
stands Shape = refl
stands Value = refl
stands Date = refl
stands Clock = refl
stands Zone = refl
stands RuleFault = refl
stands UnknownBound = refl
stands TooMany = refl
stands NotWritable = refl
stands NoRoom = refl
stands NoRow = refl
stands Total = refl

-- what holds of all that stand on a list holds of the one at each place
at-each : (p : Refusal → Bool) (l : List Refusal) → every p l ≡ true → (n : ℕ) → n < length l → p (get_or l n NoDesk) ≡ true
at-each p [] e n h = absurd (omega arith)
at-each p (q ∷ l) e zero h = (every_true p q l e).0
at-each p (q ∷ l) e (suc n) h = at-each p l (every_true p q l e).1 n (omega arith)

on-ladder : (p : Refusal → Bool) → every p ladder ≡ true → (r : Refusal) → p r ≡ true
on-ladder p e r = subst (λ q. p q ≡ true) (stands r) (at-each p ladder e (place r) (rank_below (refusal_of r)))

-- two tests agree
abbrev agree : Bool → Bool → Bool
agree true b = b
agree false b = not b

agreed : (a b : Bool) → agree a b ≡ true → a ≡ b
agreed true true e = refl
agreed true false e = sym e
agreed false true e = e
agreed false false e = refl

-- the lesser of two stands before the other
ordered : (a b : Refusal) → is_lt (cmp-value.it b a) ≡ not (leb (place a) (place b))
unfolding rank_in every
ordered a b = agreed _ _ (on-ladder (λ b. agree (is_lt (cmp-value.it b a)) (not (leb (place a) (place b))))
    (on-ladder (λ a. every (λ b. agree (is_lt (cmp-value.it b a)) (not (leb (place a) (place b)))) ladder) refl a) b)

-- of two, the lesser is told
pub least_first : (a b : Refusal) → some (refusal_of (ord_min cmp-value.it a b)) ≡ earlier (some (refusal_of a)) (some (refusal_of b))
least_first a b = rw (ordered a b) (go (leb (place a) (place b)))
  where
    go : (t : Bool) → some (refusal_of (cond (not t) b a)) ≡ some (cond t (refusal_of a) (refusal_of b))
    go true = refl
    go false = refl
