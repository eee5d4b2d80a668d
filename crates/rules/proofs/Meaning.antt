-- The set that a record writes means the places that its elements mean: in some term, in every term, in the minuend but not in the
-- subtrahend.
use Prim.Native.Nat.{ℕ}
use mathlib.Core.Path.{◌≡◌, refl, sym, ap₂}
use mathlib.Core.Bool.{Bool, true, false, cond, or-false, and-true}
use mathlib.Core.List.{List, [], ◌∷◌}
use mathlib.Core.Option.{Option, none, some}
use Rattle.rules.specs.Basics.{if_some, exists, every}
use Rattle.rules.specs.Refusal.{TYPE, UNKNOWN_BOUND, Outcome, answered, refused, ◌and_then◌, both}
use Rattle.rules.specs.Markup.{Attribute, Nodes, end, node, Element}
use Rattle.rules.specs.Invariants.{is_null}
use Rattle.rules.specs.Types.{IVL_TS, has_type}
use Rattle.rules.specs.Sets.{Place, Interval, Op, union, intersection, difference, apply, Expression, interval, combine, meant}
use Rattle.rules.specs.Listing.{interval_of, operation_of, set_from, members_of, joined, set_of}
use Rattle.rules.specs.ListingPromise.{together, is_within, means_place, mean_place, is_meant}

-- the members one after another, from the first on
abbrev pub folded : Op → Bool → List Bool → Bool
folded o b [] = b
folded o b (c ∷ cs) = folded o (apply o b c) cs

pub folded_together : (o : Op) (b : Bool) (bs : List Bool) → folded o b bs ≡ together o (b ∷ bs)
unfolding exists every
folded_together union b [] = sym (or-false b)
folded_together union true (c ∷ cs) = folded_together union true cs
folded_together union false (c ∷ cs) = folded_together union c cs
folded_together intersection b [] = sym (and-true b)
folded_together intersection true (c ∷ cs) = folded_together intersection c cs
folded_together intersection false (c ∷ cs) = folded_together intersection false cs
folded_together difference b [] = sym (and-true b)
folded_together difference true (true ∷ cs) = folded_together difference false cs
folded_together difference true (false ∷ cs) = folded_together difference true cs
folded_together difference false (c ∷ cs) = folded_together difference false cs

module _ (shift : ℕ) (x : Place) where
  -- a set that is answered means the place exactly if b
  abbrev Means : Bool → Outcome Expression → Type 0
  Means b (answered s) = meant s x ≡ b
  Means b (refused r) = Unit {0}

  combined_means : (o : Op) (b c : Bool) (s t : Outcome Expression) → Means b s → Means c t → Means (apply o b c) (both (combine o) s t)
  unfolding meant
  combined_means o b c (answered s) (answered t) h k = ap₂ (apply o) h k
  combined_means o b c (answered s) (refused r) h k = tt
  combined_means o b c (refused r) t h k = tt

  interval-means : (v : Outcome Interval) → Means (is_within v x) (v and_then λ i. answered (interval i))
  unfolding meant
  interval-means (answered v) = refl
  interval-means (refused r) = tt

  set-means : (attrs : List Attribute) (kids : Nodes) → ((o : Op) → Means (together o (mean_place shift x kids)) (members_of shift o kids))
      → Means (means_place shift x attrs kids (mean_place shift x kids)) (set_from shift attrs kids (λ o. members_of shift o kids))
  unfolding set_from
  set-means attrs kids h = go (is_null attrs) (has_type attrs IVL_TS) (operation_of attrs)
    where
      go : (a b : Bool) (o : Option Op) → Means (cond b (is_within (interval_of shift attrs kids) x) (if_some o (λ j. together j (mean_place shift x kids)) false))
          (cond a (refused UNKNOWN_BOUND)
          (cond b (interval_of shift attrs kids and_then λ v. answered (interval v)) (if_some o (λ j. members_of shift j kids) (refused TYPE))))
      go true b o = tt
      go false true o = interval-means (interval_of shift attrs kids)
      go false false none = tt
      go false false (some o) = h o

  mutual
    unfolding members_of joined mean_place

    members_mean : (o : Op) (ns : Nodes) → Means (together o (mean_place shift x ns)) (members_of shift o ns)
    members_mean o end = tt
    members_mean o (node n attrs kids rest) =
        rw (← folded_together o (means_place shift x attrs kids (mean_place shift x kids)) (mean_place shift x rest))
        (joined-means o rest (means_place shift x attrs kids (mean_place shift x kids)) (set_from shift attrs kids (λ j. members_of shift j kids)) (set-means attrs kids (λ j. members_mean j kids)))

    joined-means : (o : Op) (ns : Nodes) (b : Bool) (so_far : Outcome Expression) → Means b so_far → Means (folded o b (mean_place shift x ns)) (joined shift o so_far ns)
    joined-means o end b so_far h = h
    joined-means o (node n attrs kids rest) b so_far h =
        let c = means_place shift x attrs kids (mean_place shift x kids) in
        let member = set_from shift attrs kids (λ j. members_of shift j kids) in
        joined-means o rest (apply o b c) (both (combine o) so_far member) (combined_means o b c so_far member h (set-means attrs kids (λ j. members_mean j kids)))

  pub set-meaning : (e : Element) {s : Expression} → set_of shift e ≡ answered s → meant s x ≡ is_meant shift e x
  set-meaning e h = rw h at (set-means e.attrs e.kids (λ o. members_mean o e.kids))
