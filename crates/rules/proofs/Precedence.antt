-- The refusal ladder: of all faults the one that stands first is given, whatever the order in which they are found.
use Prim.Native.Nat.{ℕ, ◌≤◌, ◌<◌}
use mathlib.Core.Path.{◌≡◌, refl, sym, ◌∙◌, ap}
use mathlib.Core.Logic.{◌↔◌}
use mathlib.Core.Bool.{Bool, true, false, cond}
use mathlib.Core.List.{List, [], ◌∷◌, ◌++◌, map, append_assoc, Memᴰ}
use mathlib.Core.Option.{Option, none, some}
use native.Mathlib.Decide.{dec_lt}
use native.Mathlib.Omega.{arith}
use borrow.Author.Tests.{leb-true, leb-false, le-leb, lt-leb}
use lib.Dec.{leb, eqb}
use lib.ListN.{length, get_or, get_or-eq_default, get_or-map}
use lib.IntN.{ℤ}
use Rattle.rules.specs.Basics.{if_some, find}
use Rattle.rules.specs.Refusal.{Refusal, OFFSET, TOO_LONG, NOT_UTF_8, MARKUP, TYPE, SHAPE, VALUE, DATE, CLOCK, ZONE, RULE, UNKNOWN_BOUND, TOO_MANY, NOT_WRITABLE, NO_ROOM, NO_ROW, TOTAL, DAMAGED, NO_DESK, DAY_FULL, number, precedence, is_same, rank_in, rank, earlier, first_of, Outcome, answered, refused, faults_in, faults_of, ◌unless◌, ◌when◌}
use Rattle.rules.specs.Markup.{Element, document}
use Rattle.rules.specs.Check.{element_of, record_faults, check}
use Rattle.rules.proofs.Tests.{clash}

-- the ladder holds each refusal at its rank, and is found there by its number
on_ladder : (r : Refusal) → (get_or precedence (rank r) OFFSET ≡ r) × (find (is_same r) precedence ≡ some r)
unfolding rank_in find
on_ladder OFFSET = (refl, refl)
on_ladder TOO_LONG = (refl, refl)
on_ladder NOT_UTF_8 = (refl, refl)
on_ladder MARKUP = (refl, refl)
on_ladder TYPE = (refl, refl)
on_ladder SHAPE = (refl, refl)
on_ladder VALUE = (refl, refl)
on_ladder DATE = (refl, refl)
on_ladder CLOCK = (refl, refl)
on_ladder ZONE = (refl, refl)
on_ladder RULE = (refl, refl)
on_ladder UNKNOWN_BOUND = (refl, refl)
on_ladder TOO_MANY = (refl, refl)
on_ladder NOT_WRITABLE = (refl, refl)
on_ladder NO_ROOM = (refl, refl)
on_ladder NO_ROW = (refl, refl)
on_ladder TOTAL = (refl, refl)
on_ladder DAMAGED = (refl, refl)
on_ladder NO_DESK = (refl, refl)
on_ladder DAY_FULL = (refl, refl)

pub rank_injective : (a b : Refusal) → rank a ≡ rank b → a ≡ b
rank_injective a b e = sym (on_ladder a).0 ∙ ap (λ n. get_or precedence n OFFSET) e ∙ (on_ladder b).0

-- the ladder holds so many, and the list of its numbers has each refusal's at its rank
pub rank_below : (r : Refusal) → rank r < length precedence
unfolding rank_in
rank_below r = elim (dec_lt (rank r) (length precedence)) [
  | yes h ↦ h
  | no h ↦
      let z : r ≡ OFFSET = sym (on_ladder r).0 ∙ get_or-eq_default precedence OFFSET {n = rank r} (omega (arith, h)) in
      absurd (omega (arith, h, ap rank z))
]

pub number-at-rank : (r : Refusal) → get_or (map number precedence) (rank r) (number OFFSET) ≡ number r
number-at-rank r = get_or-map number precedence (rank r) OFFSET ∙ ap number (on_ladder r).0

pub found_by_number : (r : Refusal) → find (is_same r) precedence ≡ some r
found_by_number r = (on_ladder r).1

pub number_injective : (a b : Refusal) → number a ≡ number b → a ≡ b
number_injective a b e =
    let f : find (is_same a) precedence ≡ find (is_same b) precedence = ap (λ n. find (λ q. eqb n (number q)) precedence) e in
    cc (found_by_number a, found_by_number b)

-- of two, the one of the smaller rank
lower : Refusal → Refusal → Refusal
lower a b = cond (leb (rank a) (rank b)) a b

lower_assoc : (a b c : Refusal) → lower (lower a b) c ≡ lower a (lower b c)
unfolding lower
lower_assoc a b c = go _ _ refl refl
  where
    go : (x y : Bool) → leb (rank a) (rank b) ≡ x → leb (rank b) (rank c) ≡ y → lower (lower a b) c ≡ lower a (lower b c)
    go true true d e = rw (d, e, le-leb (rank a) (rank c) (omega (arith, leb-true (rank a) (rank b) d, leb-true (rank b) (rank c) e)), d)
    go true false d e = rw (d, e)
    go false true d e = rw (d, e, d)
    go false false d e = rw (d, e, lt-leb (rank a) (rank c) (omega (arith, leb-false (rank a) (rank b) d, leb-false (rank b) (rank c) e)))

lower_comm : (a b : Refusal) → lower a b ≡ lower b a
unfolding lower
lower_comm a b = go _ _ refl refl
  where
    go : (x y : Bool) → leb (rank a) (rank b) ≡ x → leb (rank b) (rank a) ≡ y → lower a b ≡ lower b a
    go true true d e = rw (d, e) (rank_injective a b (omega (arith, leb-true (rank a) (rank b) d, leb-true (rank b) (rank a) e)))
    go true false d e = rw (d, e)
    go false true d e = rw (d, e)
    go false false d e = absurd (omega (arith, leb-false (rank a) (rank b) d, leb-false (rank b) (rank a) e))

pub earlier_assoc : (a b c : Option Refusal) → earlier (earlier a b) c ≡ earlier a (earlier b c)
unfolding lower
earlier_assoc none b c = refl
earlier_assoc (some a) none c = refl
earlier_assoc (some a) (some b) none = refl
earlier_assoc (some a) (some b) (some c) = ap some (lower_assoc a b c)

pub earlier-none_left : (a : Option Refusal) → earlier none a ≡ a
earlier-none_left a = refl

pub earlier-none_right : (a : Option Refusal) → earlier a none ≡ a
earlier-none_right none = refl
earlier-none_right (some a) = refl

pub earlier_comm : (a b : Option Refusal) → earlier a b ≡ earlier b a
unfolding lower
earlier_comm none b = sym (earlier-none_right b)
earlier_comm (some a) none = refl
earlier_comm (some a) (some b) = ap some (lower_comm a b)

pub earlier_idem : (a : Option Refusal) → earlier a a ≡ a
earlier_idem none = refl
earlier_idem (some a) = rw (le-leb (rank a) (rank a) (omega arith))

pub first_of-append : (a b : List Refusal) → first_of (a ++ b) ≡ earlier (first_of a) (first_of b)
unfolding first_of
first_of-append [] b = refl
first_of-append (r ∷ a) b = ap (earlier (some r)) (first_of-append a b) ∙ sym (earlier_assoc (some r) (first_of a) (first_of b))

one_of_lem : (P : Refusal → Type 0) (a b : Refusal) → P a → P b → P (lower a b)
unfolding lower
one_of_lem P a b p q = go (leb (rank a) (rank b))
  where
    go : (x : Bool) → P (cond x a b)
    go true = p
    go false = q

lower_le : (a b : Refusal) → rank (lower a b) ≤ rank a
unfolding lower
lower_le a b = go _ refl
  where
    go : (x : Bool) → leb (rank a) (rank b) ≡ x → rank (lower a b) ≤ rank a
    go true e = rw e (omega arith)
    go false e = rw e (omega (arith, leb-false (rank a) (rank b) e))

first_in : (faults : List Refusal) (r : Refusal) → first_of faults ≡ some r → Memᴰ r faults
unfolding first_of lower
first_in [] r e = clash (cc)
first_in (q ∷ faults) r e = go (first_in faults) (first_of faults) refl e
  where
    go : ((r : Refusal) → first_of faults ≡ some r → Memᴰ r faults) → (o : Option Refusal) → first_of faults ≡ o → earlier (some q) o ≡ some r → Memᴰ r (q ∷ faults)
    go below none d e = let z : r ≡ q = cc in Memᴰ.head z
    go below (some p) d e =
        let z : lower q p ≡ r = cc in
        rw z at (one_of_lem (λ x. Memᴰ x (q ∷ faults)) q p (Memᴰ.head refl) (Memᴰ.tail (below p d)))

-- a fault among those given: one is given, of its rank or a smaller one
some_first : {q : Refusal} {faults : List Refusal} → Memᴰ q faults → (r : Refusal) × (first_of faults ≡ some r) × (rank r ≤ rank q)
unfolding first_of lower
some_first {q} (Memᴰ.head {x = x} {xs = xs} e) = go (first_of xs)
  where
    go : (o : Option Refusal) → (r : Refusal) × (earlier (some x) o ≡ some r) × (rank r ≤ rank q)
    go none = (x, refl, rw e (omega arith))
    go (some p) = (lower x p, refl, rw e (lower_le x p))
some_first {q} (Memᴰ.tail {x = x} m) =
    let (p, e, l) = some_first m in
    (lower x p, rw e, omega (arith, ap rank (lower_comm x p), lower_le p x))

-- the refusal given is r exactly if r is a fault and no fault stands before it on the ladder
pub first-is : (faults : List Refusal) (r : Refusal) → first_of faults ≡ some r ↔ (Memᴰ r faults × ((q : Refusal) → Memᴰ q faults → rank r ≤ rank q))
first-is faults r = (λ e. (first_in faults r e, least e), given)
  where
    least : first_of faults ≡ some r → (q : Refusal) → Memᴰ q faults → rank r ≤ rank q
    least e q m = let (p, d, l) = some_first m in
        let z : r ≡ p = cc in omega (arith, ap rank z)

    given : Memᴰ r faults × ((q : Refusal) → Memᴰ q faults → rank r ≤ rank q) → first_of faults ≡ some r
    given (m, h) = let (p, d, l) = some_first m in
        d ∙ ap some (rank_injective p r (omega (arith, h p (first_in faults p d))))

pub no_fault : (faults : List Refusal) → first_of faults ≡ none ↔ faults ≡ []
unfolding first_of
no_fault [] = (λ e. refl, λ e. refl)
no_fault (r ∷ faults) = (λ e. let (p, d, l) = some_first {q = r} (Memᴰ.head {xs = faults} refl) in clash (cc), λ e. clash (cc))

pub when_none : (r : Refusal) (b : Bool) → (r when b) ≡ [] → b ≡ false
when_none r true e = clash (cc)
when_none r false e = refl

-- refused by the first of all faults, or answered and without fault
data Unless {A : Type 0} (o : Outcome A) (faults : List Refusal) : Type 0 where
  faulty : (r : Refusal) → first_of (faults_of o ++ faults) ≡ some r → (o unless faults) ≡ refused r → Unless o faults
  faultless : (a : A) → o ≡ answered a → faults ≡ [] → (o unless faults) ≡ answered a → Unless o faults

module _ {A : Type 0} where
  pub unless_none : (o : Outcome A) → (o unless []) ≡ o
  unfolding first_of
  unless_none (answered a) = refl
  unless_none (refused r) = refl

  unless_cases : (o : Outcome A) (faults : List Refusal) → Unless o faults
  unless_cases o faults = go o _ refl
    where
      go : (o : Outcome A) (x : Option Refusal) → first_of (faults_of o ++ faults) ≡ x → Unless o faults
      go (answered a) none d = faultless a refl ((no_fault faults).0 d) (rw d)
      go (refused q) none d = let z : q ∷ faults ≡ [] = (no_fault (q ∷ faults)).0 d in clash (cc)
      go (answered a) (some r) d = faulty r d (rw d)
      go (refused q) (some r) d = faulty r d (rw d)

  pub unless_answered : (o : Outcome A) (faults : List Refusal) (a : A) → (o unless faults) ≡ answered a ↔ (o ≡ answered a) × (faults ≡ [])
  unfolding first_of
  unless_answered o faults a = (λ e. elim (unless_cases o faults) [ faulty r f g ↦ clash (cc) | faultless b f g h ↦ (cc, g) ], λ (e, f). rw (e, f))

  pub answered_unless : (a : A) (faults : List Refusal) → (answered a unless faults) ≡ answered a ↔ faults ≡ []
  answered_unless a faults = let h = unless_answered (answered a) faults a in (λ e. (h.0 e).1, λ e. h.1 (refl, e))

  pub unless_refused : (o : Outcome A) (faults : List Refusal) (r : Refusal) → (o unless faults) ≡ refused r ↔ first_of (faults_of o ++ faults) ≡ some r
  unless_refused o faults r = (λ e. elim (unless_cases o faults) [ faulty q f g ↦ cc | faultless a f g h ↦ clash (cc) ], λ e. rw e)

  first_of_unless : (o : Outcome A) (faults : List Refusal) → first_of (faults_of (o unless faults)) ≡ first_of (faults_of o ++ faults)
  unfolding first_of
  first_of_unless o faults = elim (unless_cases o faults) [ faulty r f g ↦ rw (g, f) | faultless a f g h ↦ rw (h, f, g) ]

  pub unless_unless : (o : Outcome A) (a b : List Refusal) → (o unless a unless b) ≡ (o unless (a ++ b))
  unless_unless o a b =
      rw (← append_assoc (faults_of o) a b, first_of-append (faults_of (o unless a)) b, first_of_unless o a, first_of-append (faults_of o ++ a) b)
      (go (first_of (faults_of o ++ a)) (first_of b))
    where
      go : (x y : Option Refusal) → if_some (earlier x y) refused (if_some x refused o) ≡ if_some (earlier x y) refused o
      go none y = refl
      go (some p) none = refl
      go (some p) (some q) = refl

earlier_again : (a b : Option Refusal) → earlier a (earlier b a) ≡ earlier b a
earlier_again a b = ap (earlier a) (earlier_comm b a) ∙ sym (earlier_assoc a a b) ∙ ap (λ x. earlier x b) (earlier_idem a) ∙ earlier_comm a b

-- an outcome's own refusal counts once
first_of_again : {A : Type 0} (o : Outcome A) (f : A → List Refusal) (faults : List Refusal) → first_of (faults_of o ++ (faults ++ faults_in f o)) ≡ first_of (faults ++ faults_in f o)
unfolding first_of
first_of_again (answered a) f faults = refl
first_of_again (refused r) f faults = rw (first_of-append faults (r ∷ [])) (earlier_again (some r) (first_of faults))

module _ (offset : ℤ) (input : List ℕ) where
  first_of-check : first_of (faults_of (element_of input) ++ record_faults offset input) ≡ first_of (record_faults offset input)
  unfolding record_faults
  first_of-check = simp first_of_again

  pub check-refused : (r : Refusal) → check offset input ≡ refused r ↔ first_of (record_faults offset input) ≡ some r
  unfolding check
  check-refused r =
      let h = unless_refused (element_of input) (record_faults offset input) r in
      (λ e. sym first_of-check ∙ h.0 e, λ e. h.1 (first_of-check ∙ e))

  pub check-answered : (e : Element) → check offset input ≡ answered e ↔ (document input ≡ some e) × (record_faults offset input ≡ [])
  unfolding check
  check-answered e =
      let h = unless_answered (element_of input) (record_faults offset input) e in
      (λ f. (found (document input) (h.0 f).0, (h.0 f).1), λ (d, f). h.1 (rw d, f))
    where
      found : (d : Option Element) → if_some d answered (refused MARKUP) ≡ answered e → d ≡ some e
      found none f = clash (cc)
      found (some d) f = cc
