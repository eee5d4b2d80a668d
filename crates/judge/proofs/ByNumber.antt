-- The first fault of attributes, asked number by number of their names: each name occurs once, so the order does not matter.
use Prim.Native.Nat.{ℕ, zero, suc, ◌+◌, ◌≤◌}
use mathlib.Core.Path.{◌≡◌, refl, sym, ◌∙◌, ap}
use mathlib.Core.Bool.{Bool, true, false, not, cond}
use mathlib.Core.List.{List, [], ◌∷◌, flat_map}
use mathlib.Core.Option.{Option, none, some}
use native.Mathlib.Omega.{arith}
use borrow.Author.Tests.{eqb-true, eqb-false, ltb-true, ltb-false, lt-ltb, le-ltb}
use lib.Dec.{eqb, ltb}
use Rattle.rules.specs.Basics.{is_some, same}
use Rattle.rules.specs.Refusal.{Refusal, earlier, first_of}
use Rattle.rules.specs.Markup.{Attribute, lookup, is_distinct}
use Rattle.rules.proofs.Precedence.{earlier_assoc, earlier_comm, earlier-none_right, first_of-append}
use Rattle.rules.proofs.Tests.{clash, both_true, same_true}
use Rattle.element.specs.Names.{known, name_at, number_of, is_known}
use Rattle.element.proofs.Numbers.{has-number}
use Rattle.judge.specs.Carried.{fault_at}

swap : (a b c : Option Refusal) → earlier a (earlier b c) ≡ earlier b (earlier a c)
swap a b c = sym (earlier_assoc a b c) ∙ ap (λ (z : Option Refusal). earlier z c) (earlier_comm a b) ∙ earlier_assoc b a c

module _ (f : Attribute → List Refusal) where
  -- the first fault of the attributes whose numbers are below one
  unfoldable pub below : List Attribute → ℕ → Option Refusal
  below l zero = none
  below l (suc n) = earlier (below l n) (fault_at f l n)

  -- the first fault of the attributes whose names are not known
  unfoldable pub unknown : List Attribute → Option Refusal
  unknown [] = none
  unknown (a ∷ l) = cond (is_known a.name) (unknown l) (earlier (first_of (f a)) (unknown l))

  none_below : (n : ℕ) → below [] n ≡ none
  unfolding below lookup
  none_below zero = refl
  none_below (suc n) = rw (none_below n)

  module _ (a : Attribute) (l : List Attribute) (once : lookup a.name l ≡ none) where
    here : (n : ℕ) → same a.name (name_at n) ≡ true → (fault_at f (a ∷ l) n ≡ first_of (f a)) × (fault_at f l n ≡ none)
    unfolding lookup
    here n e =
        let z : name_at n ≡ a.name = sym (same_true _ _ e) in
        (rw e (ap (λ (m : List ℕ). first_of (f (record { name = m; value = a.value }))) z), rw (z, once))

    elsewhere : (n : ℕ) → same a.name (name_at n) ≡ false → fault_at f (a ∷ l) n ≡ fault_at f l n
    unfolding lookup
    elsewhere n e = rw e

    -- one attribute more adds its fault from its number on
    more_below : (n : ℕ) → n ≤ known → below (a ∷ l) n ≡ cond (ltb (number_of a.name) n) (earlier (first_of (f a)) (below l n)) (below l n)
    unfolding below
    more_below zero h = rw (le-ltb (number_of a.name) 0 (omega arith))
    more_below (suc n) h = go (eqb (number_of a.name) n) (ltb (number_of a.name) n) refl refl (more_below n (omega (arith, h)))
      where
        go : (b d : Bool) → eqb (number_of a.name) n ≡ b → ltb (number_of a.name) n ≡ d
            → below (a ∷ l) n ≡ cond (ltb (number_of a.name) n) (earlier (first_of (f a)) (below l n)) (below l n)
            → earlier (below (a ∷ l) n) (fault_at f (a ∷ l) n)
            ≡ cond (ltb (number_of a.name) (suc n)) (earlier (first_of (f a)) (earlier (below l n) (fault_at f l n))) (earlier (below l n) (fault_at f l n))
        go true d e i w =
            let z : number_of a.name ≡ n = eqb-true _ _ e in
            let (p, q) = here n (has-number a.name n h ∙ e) in
            rw (w, p, q, le-ltb (number_of a.name) n (omega (arith, z)), lt-ltb (number_of a.name) (suc n) (omega (arith, z)), earlier-none_right (below l n))
            (earlier_comm (below l n) (first_of (f a)))
        go false true e i w =
            rw (w, i, elsewhere n (has-number a.name n h ∙ e), lt-ltb (number_of a.name) (suc n) (omega (arith, ltb-true (number_of a.name) n i)))
            (earlier_assoc (first_of (f a)) (below l n) (fault_at f l n))
        go false false e i w =
            let d : number_of a.name ≡ n → ⊥ = eqb-false _ _ e in
            rw (w, i, elsewhere n (has-number a.name n h ∙ e), le-ltb (number_of a.name) (suc n) (omega (arith, ltb-false (number_of a.name) n i, d)))

  -- the first fault of attributes, each of whose names occurs once
  pub first_by_number : (l : List Attribute) → is_distinct l ≡ true → first_of (flat_map f l) ≡ earlier (unknown l) (below l known)
  unfolding is_distinct unknown flat_map first_of
  first_by_number [] e = sym (none_below known)
  first_by_number (a ∷ l) e = let (p, q) = both_true (not (is_some (lookup a.name l))) (is_distinct l) e in go (is_known a.name) refl (absent (lookup a.name l) p) (first_by_number l q)
    where
      absent : (o : Option (List ℕ)) → not (is_some o) ≡ true → o ≡ none
      absent none e = refl
      absent (some v) e = clash (cc)

      go : (b : Bool) → is_known a.name ≡ b → lookup a.name l ≡ none → first_of (flat_map f l) ≡ earlier (unknown l) (below l known)
          → first_of (flat_map f (a ∷ l)) ≡ earlier (cond b (unknown l) (earlier (first_of (f a)) (unknown l))) (below (a ∷ l) known)
      go true z d h =
          rw (first_of-append (f a) (flat_map f l), h, more_below a l d known (omega arith), z) (swap (first_of (f a)) (unknown l) (below l known))
      go false z d h =
          rw (first_of-append (f a) (flat_map f l), h, more_below a l d known (omega arith), z) (sym (earlier_assoc (first_of (f a)) (unknown l) (below l known)))

  -- the first of some faults, with those of the numbers below one, and that of this number
  module _ (l : List Attribute) (n : ℕ) (start : Option Refusal) {so_far : Option Refusal} (h : so_far ≡ earlier start (below l n)) where
    pub below_more : {o b : Option Refusal} → b ≡ fault_at f l n → o ≡ earlier so_far b → o ≡ earlier start (below l (n + 1))
    unfolding below
    below_more e i = let z : n + 1 ≡ suc n = omega arith in rw (z, i, e, h) (earlier_assoc start (below l n) (fault_at f l n))

    pub below_none : lookup (name_at n) l ≡ none → so_far ≡ earlier start (below l (n + 1))
    unfolding below
    below_none e = let z : n + 1 ≡ suc n = omega arith in rw (z, e, earlier-none_right (below l n)) h
