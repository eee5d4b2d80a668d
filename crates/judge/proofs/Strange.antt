-- The faults of attributes whose names are not known: each is SHAPE, unless it is ignored.
use Prim.Native.Nat.{ℕ, suc, ◌<◌}
use mathlib.Core.Path.{◌≡◌, refl, sym, ◌∙◌, ap}
use mathlib.Core.Bool.{Bool, true, false, not, ◌&&◌, ◌||◌, cond, and-false}
use mathlib.Core.List.{List, [], ◌∷◌, ◌++◌, flat_map}
use mathlib.Core.Option.{Option, none, some}
use borrow.Author.Tests.{ltb-true, ne_eqb}
use native.Mathlib.Omega.{arith}
use lib.Dec.{eqb}
use Rattle.rules.specs.Basics.{bytes, same, begins, exists, every}
use Rattle.rules.specs.Refusal.{Refusal, SHAPE, rank_in, earlier, first_of, ◌when◌}
use Rattle.rules.specs.Markup.{Attribute, is_distinct}
use Rattle.rules.specs.Types.{Kind, TS, IVL_TS, QSU_TS, QSI_TS, QSD_TS, MO, II, CD, EN, DisplayName, Part, Column, line_of}
use Rattle.rules.specs.Judge.{Standing, top, member, inside, is_top, attribute_faults, type_columns, null_columns}
use Rattle.rules.proofs.Tests.{clash, passes, passed, every_true, every_append, same_true}
use Rattle.element.specs.Names.{known, name_at, number_from, number_of, is_known}
use Rattle.element.specs.Tags.{count, is_namespace, is_other}
use Rattle.element.proofs.Numbers.{number-name}
use Rattle.datatype.specs.Tables.{form_among, columns_of}
use Rattle.judge.specs.Carried.{is_strange}
use Rattle.judge.proofs.AttributeFaults.{ignored_fault, unknown-fault}
use Rattle.judge.proofs.ByNumber.{below, unknown, first_by_number}

-- no known name begins with xmlns
pub plain : (n : ℕ) → n < known → begins (bytes "xmlns") (name_at n) ≡ false
unfolding begins passes
plain n h = go (begins (bytes "xmlns") (name_at n)) (passed known (λ k. not (begins (bytes "xmlns") (name_at k))) n refl h)
  where
    go : (b : Bool) → not b ≡ true → b ≡ false
    go true e = clash (cc)
    go false e = refl

-- every column of a line has a known name
known-columns : (p : Standing) (k : Kind) → every (λ c. is_known c.name) (columns_of p k) ≡ true
unfolding every number_from same line_of
known-columns p k =
    let (n, o) = own k in
    every_append (λ c. is_known c.name) (type_columns p ++ null_columns k) (line_of k).columns (every_append (λ c. is_known c.name) (type_columns p) (null_columns k) (typed p) n) o
  where
    typed : (p : Standing) → every (λ c. is_known c.name) (type_columns p) ≡ true
    typed top = refl
    typed member = refl
    typed inside = refl

    own : (k : Kind) → (every (λ c. is_known c.name) (null_columns k) ≡ true) × (every (λ c. is_known c.name) (line_of k).columns ≡ true)
    own TS = (refl, refl)
    own IVL_TS = (refl, refl)
    own QSU_TS = (refl, refl)
    own QSI_TS = (refl, refl)
    own QSD_TS = (refl, refl)
    own MO = (refl, refl)
    own II = (refl, refl)
    own CD = (refl, refl)
    own EN = (refl, refl)
    own DisplayName = (refl, refl)
    own Part = (refl, refl)

no_column : (t : List ℕ) → is_known t ≡ false → (columns : List Column) → every (λ c. is_known c.name) columns ≡ true → form_among columns t ≡ none
no_column t u [] h = refl
no_column t u (c ∷ columns) h = let (f, g) = every_true (λ c. is_known c.name) c columns h in go (same c.name t) refl f (no_column t u columns g)
  where
    go : (b : Bool) → same c.name t ≡ b → is_known c.name ≡ true → form_among columns t ≡ none → cond b (some c.form) (form_among columns t) ≡ none
    go true e f rest = let z : is_known c.name ≡ is_known t = ap is_known (same_true _ _ e) in clash (cc)
    go false e f rest = rest

module _ (shift : ℕ) (p : Standing) (k : Kind) where
  not_known : (a : Attribute) → is_known a.name ≡ false → first_of (attribute_faults shift p k a) ≡ first_of (SHAPE when is_strange p a)
  unfolding first_of
  not_known a u = go (is_top p) (is_namespace a) refl refl
    where
      shape : (is_top p && is_namespace a) ≡ false → first_of (attribute_faults shift p k a) ≡ some SHAPE
      shape e = sym (unknown-fault shift p k a e (no_column a.name u (columns_of p k) (known-columns p k)))

      go : (t b : Bool) → is_top p ≡ t → is_namespace a ≡ b → first_of (attribute_faults shift p k a) ≡ first_of (SHAPE when is_strange p a)
      go t false d e = rw (u, e) (shape (rw (e, and-false (is_top p))))
      go true true d e = rw (u, e, d) (sym (ignored_fault shift p k a (rw (d, e))))
      go false true d e = rw (u, e, d) (shape (rw d))

  known_plain : (a : Attribute) → is_known a.name ≡ true → is_strange p a ≡ false
  known_plain a u =
      let h = ltb-true (number_of a.name) known u in
      let e : is_namespace a ≡ false = ap (begins (bytes "xmlns")) (same_true _ _ (number-name a.name h)) ∙ plain (number_of a.name) h in
      rw (u, e, and-false (not (is_top p)))

  either : (x y : Bool) → earlier (first_of (SHAPE when x)) (first_of (SHAPE when y)) ≡ first_of (SHAPE when (x || y))
  unfolding first_of rank_in
  either true true = refl
  either true false = refl
  either false y = refl

  -- the first of their faults
  pub strange_fault : (l : List Attribute) → unknown (attribute_faults shift p k) l ≡ first_of (SHAPE when exists (is_strange p) l)
  unfolding unknown exists first_of
  strange_fault [] = refl
  strange_fault (a ∷ l) = go (is_known a.name) refl (strange_fault l)
    where
      go : (b : Bool) → is_known a.name ≡ b → unknown (attribute_faults shift p k) l ≡ first_of (SHAPE when exists (is_strange p) l)
          → cond b (unknown (attribute_faults shift p k) l) (earlier (first_of (attribute_faults shift p k a)) (unknown (attribute_faults shift p k) l))
          ≡ first_of (SHAPE when (is_strange p a || exists (is_strange p) l))
      go true u rest = rw (known_plain a u) rest
      go false u rest = rw (not_known a u, rest) (either (is_strange p a) (exists (is_strange p) l))

  -- the first fault of all attributes, each of whose names occurs once
  pub all-judged : (l : List Attribute) {n : ℕ} {o r : Option Refusal} → is_distinct l ≡ true → n ≡ known → o ≡ first_of (SHAPE when exists (is_strange p) l)
      → r ≡ earlier o (below (attribute_faults shift p k) l n) → r ≡ first_of (flat_map (attribute_faults shift p k) l)
  all-judged l d z e h = rw (first_by_number (attribute_faults shift p k) l d, strange_fault l, ← e, ← z) h

-- one of a list passes a test if their count is not 0
counted : {A : Type 0} (q : A → Bool) (l : List A) → not (eqb (count q l) 0) ≡ exists q l
unfolding exists
counted q [] = refl
counted q (a ∷ l) = go (q a) (counted q l)
  where
    go : (b : Bool) → not (eqb (count q l) 0) ≡ exists q l → not (eqb (cond b (suc (count q l)) (count q l)) 0) ≡ (b || exists q l)
    go true h = rw (ne_eqb (suc (count q l)) 0 (λ z. absurd (omega (arith, z))))
    go false h = h

parted : {A : Type 0} (b : Bool) (f g : A → Bool) (l : List A) → exists (λ a. f a || (b && g a)) l ≡ (exists f l || (b && exists g l))
unfolding exists
parted b f g [] = go b
  where
    go : (b : Bool) → false ≡ (b && false)
    go true = refl
    go false = refl
parted b f g (a ∷ l) = rw (parted b f g l) (go b (f a) (g a) (exists f l) (exists g l))
  where
    go : (b x y z w : Bool) → ((x || (b && y)) || (z || (b && w))) ≡ ((x || z) || (b && (y || w)))
    go b true y z w = refl
    go false false y z w = refl
    go true false true true w = refl
    go true false true false w = refl
    go true false false z w = refl

pub strange_counts : (p : Standing) (l : List Attribute)
    → (not (eqb (count is_other l) 0) || (not (is_top p) && not (eqb (count is_namespace l) 0))) ≡ exists (is_strange p) l
strange_counts p l = rw (counted is_other l, counted is_namespace l) (sym (parted (not (is_top p)) is_other is_namespace l))
