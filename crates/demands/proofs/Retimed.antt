-- What stands before VALUE on the ladder does not depend on the texts of times: it applies to a record exactly if it does with good times in their place.
use Prim.Native.Nat.{ℕ, ◌≤◌, ◌<◌}
use mathlib.Core.Path.{◌≡◌, refl, ap}
use mathlib.Core.Logic.{inl, inr, ◌↔◌}
use mathlib.Core.Bool.{Bool, true, false, not, ◌&&◌, ◌||◌, cond}
use mathlib.Core.List.Memᴰ
use mathlib.Core.List.{List, [], ◌∷◌, ◌++◌, map, flat_map, Memᴰ}
use mathlib.Core.Option.{Option, none, some}
use native.Mathlib.Omega.{arith}
use Rattle.rules.specs.Basics.{is_some, if_some, find, exists, bytes, is_empty, same, begins}
use Rattle.rules.specs.Refusal.{Refusal, SHAPE, VALUE, RULE, rank_in, rank, ◌when◌}
use Rattle.rules.specs.Parsers.{whole}
use Rattle.rules.specs.Markup.{Attribute, Nodes, end, node, Element, lookup}
use Rattle.rules.specs.Timestamp.{read_timestamp}
use Rattle.rules.specs.Forms.{Form, any_text, non_empty, flavor, timestamp, flag, amount, currency, root, part_type, qualifiers, amount_text, is_currency, is_flavor, is_flag, is_root, is_part_type, is_qualifiers, form_faults}
use Rattle.rules.specs.Invariants.{is_null}
use Rattle.rules.specs.Types.{Kind, name_of, member_types, all_types, type_among, Column, ChildKind, always, typed, Child, line_of}
use Rattle.rules.specs.Judge.{Standing, top, is_top, type_columns, null_columns, attribute_faults, lacks, breaks_null, element_faults, kind_of, standing_of, next_child, child_faults, top_faults}
use Rattle.rules.proofs.Tests.{same_true}
use Rattle.rules.proofs.Children.{faults_as}
use Rattle.demands.specs.WrongTimes.{IsWrongBy, wrong_form, wrong_date, wrong_clock, wrong_zone, retimed_attribute, retimed, retimed_element}
use Rattle.demands.proofs.WrongTexts.{in_read, is-wrong_by}
use Rattle.demands.proofs.TimesWithin.{in_when, kids_as}

-- two lists of faults that have the same of those that stand before VALUE
abbrev IsEarly : Refusal → Type 0
IsEarly q = rank q < rank VALUE

abbrev Alike : List Refusal → List Refusal → Type 0
Alike a b = (q : Refusal) → IsEarly q → Memᴰ q a ↔ Memᴰ q b

alike_refl : (a : List Refusal) → Alike a a
alike_refl a q h = (λ m. m, λ m. m)

alike_append : (a c : List Refusal) {b d : List Refusal} → Alike a c → Alike b d → Alike (a ++ b) (c ++ d)
alike_append a c {b} {d} f g q h = (
  λ m. elim (Memᴰ.append_cases a m) [ inl m ↦ Memᴰ.append_left d ((f q h).0 m) | inr m ↦ Memᴰ.append_right c ((g q h).0 m) ],
  λ m. elim (Memᴰ.append_cases c m) [ inl m ↦ Memᴰ.append_left b ((f q h).1 m) | inr m ↦ Memᴰ.append_right a ((g q h).1 m) ],
)

-- where neither has one
alike_none : (a b : List Refusal) → ((q : Refusal) → Memᴰ q a → rank VALUE ≤ rank q) → ((q : Refusal) → Memᴰ q b → rank VALUE ≤ rank q) → Alike a b
alike_none a b f g q h = (λ m. absurd (omega (arith, h, f q m)), λ m. absurd (omega (arith, h, g q m)))

late_when : (q p : Refusal) (b : Bool) → rank VALUE ≤ rank p → Memᴰ q (p when b) → rank VALUE ≤ rank q
late_when q p b h m = omega (arith, h, ap rank (in_when b m))

alike_rule : (a b : Bool) → Alike (RULE when a) (RULE when b)
unfolding rank_in
alike_rule a b = alike_none _ _ (λ q. late_when q RULE a (omega arith)) (λ q. late_when q RULE b (omega arith))

late_wrong : {text : List ℕ} {q : Refusal} → IsWrongBy text q → rank VALUE ≤ rank q
unfolding rank_in
late_wrong (wrong_form n) = omega arith
late_wrong (wrong_date f n) = omega arith
late_wrong (wrong_clock f d n) = omega arith
late_wrong (wrong_zone f d c n) = omega arith

late_form : (shift : ℕ) (f : Form) (text : List ℕ) (q : Refusal) → Memᴰ q (form_faults shift f text) → rank VALUE ≤ rank q
unfolding form_faults
late_form shift timestamp text q m = late_wrong ((is-wrong_by shift text q).0 ((in_read (read_timestamp shift text) q).0 m))
late_form shift any_text text q m = absurd (Memᴰ.not-nil m)
late_form shift non_empty text q m = late_when q VALUE (is_empty text) (omega arith) m
late_form shift flavor text q m = late_when q VALUE (not (is_flavor text)) (omega arith) m
late_form shift flag text q m = late_when q VALUE (not (is_flag text)) (omega arith) m
late_form shift amount text q m = late_when q VALUE (not (is_some (whole amount_text text))) (omega arith) m
late_form shift currency text q m = late_when q VALUE (not (is_currency text)) (omega arith) m
late_form shift root text q m = late_when q VALUE (not (is_root text)) (omega arith) m
late_form shift part_type text q m = late_when q VALUE (not (is_part_type text)) (omega arith) m
late_form shift qualifiers text q m = late_when q VALUE (not (is_qualifiers text)) (omega arith) m

-- names, types and null flavors are as they were
lookup-other : (n : List ℕ) → same (bytes "value") n ≡ false → (attrs : List Attribute) → lookup n (map retimed_attribute attrs) ≡ lookup n attrs
unfolding lookup
lookup-other n d [] = refl
lookup-other n d (a ∷ attrs) = go (same a.name (bytes "value")) refl (lookup-other n d attrs)
  where
    go : (b : Bool) → same a.name (bytes "value") ≡ b → lookup n (map retimed_attribute attrs) ≡ lookup n attrs
        → lookup n (cond b (record { name = a.name; value = bytes "0001" }) a ∷ map retimed_attribute attrs) ≡ lookup n (a ∷ attrs)
    go false e below = rw below refl
    go true e below = let z : same a.name n ≡ false = rw (same_true a.name (bytes "value") e) d in rw (z, below) refl

carried : (n : List ℕ) (attrs : List Attribute) → is_some (lookup n (map retimed_attribute attrs)) ≡ is_some (lookup n attrs)
unfolding lookup
carried n [] = refl
carried n (a ∷ attrs) = go (same a.name (bytes "value")) (same a.name n) refl (carried n attrs)
  where
    go : (b c : Bool) → same a.name n ≡ c → is_some (lookup n (map retimed_attribute attrs)) ≡ is_some (lookup n attrs)
        → is_some (lookup n (cond b (record { name = a.name; value = bytes "0001" }) a ∷ map retimed_attribute attrs)) ≡ is_some (lookup n (a ∷ attrs))
    go true true e below = rw e refl
    go true false e below = rw (e, below) refl
    go false true e below = rw e refl
    go false false e below = rw (e, below) refl

lacks-same : (attrs : List Attribute) (l : List Column) → exists (lacks (map retimed_attribute attrs)) l ≡ exists (lacks attrs) l
unfolding exists
lacks-same attrs [] = refl
lacks-same attrs (c ∷ l) = rw (carried c.name attrs, lacks-same attrs l) refl

pub type-same : (kinds : List Kind) (attrs : List Attribute) → type_among kinds (map retimed_attribute attrs) ≡ type_among kinds attrs
unfolding same
type-same kinds attrs = ap (λ o. find (λ k. if_some o (same (name_of k)) false) kinds) (lookup-other (bytes "xsi:type") refl attrs)

null-same : (attrs : List Attribute) → is_null (map retimed_attribute attrs) ≡ is_null attrs
null-same attrs = carried (bytes "nullFlavor") attrs

kind-same : (ck : ChildKind) (attrs : List Attribute) → kind_of ck (map retimed_attribute attrs) ≡ kind_of ck attrs
kind-same (always k) attrs = refl
kind-same typed attrs = type-same member_types attrs

-- so faults before VALUE are as they were: of attributes, of an element, of children, of a record's element
module _ (shift : ℕ) where
  alike_attribute : (p : Standing) (k : Kind) (a : Attribute) → Alike (attribute_faults shift p k (retimed_attribute a)) (attribute_faults shift p k a)
  unfolding attribute_faults
  alike_attribute p k a = go (same a.name (bytes "value"))
    where
      by_column : (b : Bool) (o : Option Column) → Alike (cond b [] (if_some o (λ c. form_faults shift c.form (bytes "0001")) (SHAPE ∷ []))) (cond b [] (if_some o (λ c. form_faults shift c.form a.value) (SHAPE ∷ [])))
      by_column true o = alike_refl []
      by_column false none = alike_refl (SHAPE ∷ [])
      by_column false (some c) = alike_none _ _ (late_form shift c.form (bytes "0001")) (late_form shift c.form a.value)

      go : (b : Bool) → Alike (attribute_faults shift p k (cond b (record { name = a.name; value = bytes "0001" }) a)) (attribute_faults shift p k a)
      go false = alike_refl _
      go true = by_column (is_top p && begins (bytes "xmlns") a.name) (find (λ c. same c.name a.name) (type_columns p ++ null_columns k ++ (line_of k).columns))

  alike_attributes : (p : Standing) (k : Kind) (attrs : List Attribute) → Alike (flat_map (attribute_faults shift p k) (map retimed_attribute attrs)) (flat_map (attribute_faults shift p k) attrs)
  unfolding flat_map
  alike_attributes p k [] = alike_refl []
  alike_attributes p k (a ∷ attrs) = alike_append _ _ (alike_attribute p k a) (alike_attributes p k attrs)

  alike_element : (p : Standing) (o : Option Kind) (attrs : List Attribute) (kids kids' : Nodes) (within within' : Kind → List Refusal) → ((k : Kind) → Alike (within' k) (within k))
      → Alike (element_faults shift p o (map retimed_attribute attrs) kids' within') (element_faults shift p o attrs kids within)
  unfolding element_faults
  alike_element p none attrs kids kids' within within' h = alike_refl _
  alike_element p (some k) attrs kids kids' within within' h =
      alike_append _ _ (alike_append _ _ (alike_append _ _ (alike_attributes p k attrs) (rw (lacks-same attrs (line_of k).columns) (alike_refl _))) (h k))
      (alike_rule ((line_of k).invariant shift (map retimed_attribute attrs) kids' || breaks_null k (map retimed_attribute attrs) kids') ((line_of k).invariant shift attrs kids || breaks_null k attrs kids))

  alike_children : (k : Kind) (null : Bool) (stage : ℕ) (ns : Nodes) → Alike (child_faults shift k null stage (retimed ns)) (child_faults shift k null stage ns)
  unfolding child_faults retimed
  alike_children k null stage end = alike_refl _
  alike_children k null stage (node n attrs kids rest) =
      alike_append _ _ (go (next_child k stage n) (λ j. alike_children j (is_null attrs) 0 kids)) (alike_children k null (if_some (next_child k stage n) (λ c. c.to) stage) rest)
    where
      go : (o : Option Child) → ((j : Kind) → Alike (child_faults shift j (is_null attrs) 0 (retimed kids)) (child_faults shift j (is_null attrs) 0 kids))
          → Alike (if_some o (λ c. faults_as shift (map retimed_attribute attrs) (retimed kids) c.kind) (SHAPE ∷ [])) (if_some o (λ c. faults_as shift attrs kids c.kind) (SHAPE ∷ []))
      go none below = alike_refl _
      go (some c) below =
          rw (kind-same c.kind attrs, null-same attrs)
          (alike_element (standing_of c.kind) (kind_of c.kind attrs) attrs kids (retimed kids) (kids_as shift attrs kids) (λ j. child_faults shift j (is_null attrs) 0 (retimed kids)) below)

  pub alike_top : (e : Element) → Alike (top_faults shift (retimed_element e)) (top_faults shift e)
  alike_top e =
      rw (type-same all_types e.attrs, null-same e.attrs)
      (alike_element top (type_among all_types e.attrs) e.attrs e.kids (retimed e.kids) (kids_as shift e.attrs e.kids) (λ j. child_faults shift j (is_null e.attrs) 0 (retimed e.kids))
      (λ k. alike_children k (is_null e.attrs) 0 e.kids))
