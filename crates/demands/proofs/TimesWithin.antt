-- The texts within a record of times: the record has a fault of a text exactly if one of its texts has it.
use Prim.Native.Nat.{ℕ, ◌≤◌, ◌<◌}
use mathlib.Core.Path.{◌≡◌, refl, sym, ◌∙◌, subst}
use mathlib.Core.Logic.{◌⊎◌, inl, inr}
use mathlib.Core.Bool.{Bool, true, false, not, ◌&&◌, ◌||◌, cond}
use mathlib.Core.List.Memᴰ
use mathlib.Core.List.{List, [], ◌∷◌, ◌++◌, flat_map, Memᴰ}
use mathlib.Core.Option.{Option, none, some}
use native.Mathlib.Omega.{arith}
use lib.Dec.{ltb}
use Rattle.rules.specs.Basics.{is_some, if_some, find, exists, every, bytes, is_empty, same, begins}
use Rattle.rules.specs.Refusal.{Refusal, TYPE, SHAPE, VALUE, RULE, rank_in, rank, ◌when◌}
use Rattle.rules.specs.Parsers.{whole}
use Rattle.rules.specs.Markup.{Attribute, Nodes, end, node}
use Rattle.rules.specs.Forms.{Form, any_text, non_empty, flavor, timestamp, flag, amount, currency, root, part_type, qualifiers, amount_text, is_currency, is_flavor, is_flag, is_root, is_part_type, is_qualifiers, form_faults}
use Rattle.rules.specs.Invariants.{is_null}
use Rattle.rules.specs.Types.{Kind, TS, IVL_TS, QSU_TS, QSI_TS, QSD_TS, MO, II, CD, EN, DisplayName, Part, name_of, member_types, Column, ChildKind, always, typed, Child, line_of}
use Rattle.rules.specs.Judge.{Standing, top, member, inside, is_top, type_columns, null_columns, attribute_faults, lacks, breaks_null, element_faults, kind_of, standing_of, next_child, child_faults}
use Rattle.rules.proofs.Tests.{clash, both_true, found, same_true, same_refl}
use Rattle.rules.proofs.Children.{faults_as}
use Rattle.demands.specs.WrongTimes.{texts_in, part_refusals}

-- the refusals of texts stand from VALUE to before RULE, and those that the request adds after VALUE
abbrev pub IsOfText : Refusal → Type 0
IsOfText q = (rank VALUE ≤ rank q) × (rank q < rank RULE)

abbrev pub IsPart : Refusal → Type 0
IsPart q = (rank VALUE < rank q) × (rank q < rank RULE)

pub is_part : {r : Refusal} → Memᴰ r part_refusals → IsPart r
unfolding rank_in
is_part m = elim (Memᴰ.cases_cons m) [
  | inl e ↦ rw e (omega arith)
  | inr m ↦ elim (Memᴰ.cases_cons m) [ inl e ↦ rw e (omega arith) | inr m ↦ rw (Memᴰ.eq_of_singleton m) (omega arith) ]
]

pub in_when : {r q : Refusal} (b : Bool) → Memᴰ r (q when b) → r ≡ q
in_when true m = Memᴰ.eq_of_singleton m
in_when false m = absurd (Memᴰ.not-nil m)

-- one of these is no other
pub not_of_text : {A : Type 0} (q : Refusal) → IsOfText q → (p : Refusal) → (IsOfText p → ⊥) → q ≡ p → A
not_of_text q of-text p n e = absurd (n (subst IsOfText e of-text))

pub not_part : {A : Type 0} (r : Refusal) → IsPart r → (q : Refusal) → (IsPart q → ⊥) → r ≡ q → A
not_part r part q n e = absurd (n (subst IsPart e part))

in_flat_map : {A B : Type 0} (f : A → List B) (l : List A) {b : B} → Memᴰ b (flat_map f l) → (a : A) × Memᴰ a l × Memᴰ b (f a)
unfolding flat_map
in_flat_map f [] m = absurd (Memᴰ.not-nil m)
in_flat_map f (a ∷ l) m = elim (Memᴰ.append_cases (f a) m) [
  | inl m ↦ (a, Memᴰ.head refl, m)
  | inr m ↦ let (c, i, n) = in_flat_map f l m in (c, Memᴰ.tail i, n)
]

flat_map_in : {A B : Type 0} (f : A → List B) {a : A} {l : List A} {b : B} → Memᴰ a l → Memᴰ b (f a) → Memᴰ b (flat_map f l)
unfolding flat_map
flat_map_in f {b = b} (Memᴰ.head {x = x} {xs = xs} e) m = Memᴰ.append_left (flat_map f xs) (subst (λ a. Memᴰ b (f a)) e m)
flat_map_in f (Memᴰ.tail {x = x} i) m = Memᴰ.append_right (f x) (flat_map_in f i m)

-- Kinds that have times, the texts in them that have a form, and the table: a column of a kind that has times is one of these texts, none of another is
-- a time, and what is inside has times exactly if it is inside of one that has.
abbrev pub is_timed : Kind → Bool
is_timed k = exists (λ j. same (name_of j) (name_of k)) (TS ∷ member_types)

pub data IsText : (name : List ℕ) → Form → Type 0 where
  time_text : IsText (bytes "value") timestamp
  flavor_text : IsText (bytes "nullFlavor") flavor
  low_text : IsText (bytes "lowClosed") flag
  high_text : IsText (bytes "highClosed") flag

abbrev is_text_named : List ℕ → Form → Bool
is_text_named n timestamp = same (bytes "value") n
is_text_named n flavor = same (bytes "nullFlavor") n
is_text_named n flag = same (bytes "lowClosed") n || same (bytes "highClosed") n
is_text_named n any_text = true
is_text_named n non_empty = false
is_text_named n amount = false
is_text_named n currency = false
is_text_named n root = false
is_text_named n part_type = false
is_text_named n qualifiers = false

abbrev is_time : Form → Bool
is_time timestamp = true
is_time any_text = false
is_time non_empty = false
is_time flavor = false
is_time flag = false
is_time amount = false
is_time currency = false
is_time root = false
is_time part_type = false
is_time qualifiers = false

abbrev is_alike : Bool → Bool → Bool
is_alike true b = b
is_alike false b = not b

abbrev column_fits : Kind → Column → Bool
column_fits k c = (not (is_time c.form) || is_timed k) && (is_text_named c.name c.form || not (is_timed k))

abbrev child_fits : Kind → Child → Bool
child_fits k c = elim c.kind [ always j ↦ is_alike (is_timed j) (is_timed k) | typed ↦ is_timed k ]

table_fits : (k : Kind) → (every (column_fits k) (null_columns k ++ (line_of k).columns) && every (child_fits k) (line_of k).children) ≡ true
unfolding line_of every exists same
table_fits TS = refl
table_fits IVL_TS = refl
table_fits QSU_TS = refl
table_fits QSI_TS = refl
table_fits QSD_TS = refl
table_fits MO = refl
table_fits II = refl
table_fits CD = refl
table_fits EN = refl
table_fits DisplayName = refl
table_fits Part = refl

columns-fit : (k : Kind) → every (column_fits k) (null_columns k ++ (line_of k).columns) ≡ true
columns-fit k = (both_true (every (column_fits k) (null_columns k ++ (line_of k).columns)) (every (child_fits k) (line_of k).children) (table_fits k)).0

children-fit : (k : Kind) → every (child_fits k) (line_of k).children ≡ true
children-fit k = (both_true (every (column_fits k) (null_columns k ++ (line_of k).columns)) (every (child_fits k) (line_of k).children) (table_fits k)).1

alike : (a b : Bool) → is_alike a b ≡ true → a ≡ b
alike true true e = refl
alike false false e = refl
alike true false e = clash (cc)
alike false true e = clash (cc)

members_timed : every is_timed member_types ≡ true
unfolding every exists same
members_timed = refl

child_timed : (k : Kind) (stage : ℕ) (n : List ℕ) (attrs : List Attribute) (c : Child) (j : Kind) → next_child k stage n ≡ some c → kind_of c.kind attrs ≡ some j
    → is_timed j ≡ is_timed k
child_timed k stage n attrs c j e f = by_kind c.kind f (found _ (child_fits k) (line_of k).children c (children-fit k) e).1
  where
    by_kind : (ck : ChildKind) → kind_of ck attrs ≡ some j → elim ck [ always j ↦ is_alike (is_timed j) (is_timed k) | typed ↦ is_timed k ] ≡ true → is_timed j ≡ is_timed k
    by_kind (always i) f t = let z : i ≡ j = cc in rw (← z) (alike (is_timed i) (is_timed k) t)
    by_kind typed f t = (found _ is_timed member_types j members_timed f).1 ∙ sym t

-- where a fault of an attribute, of an element and of children comes from
data OfAttribute (shift : ℕ) (k : Kind) (a : Attribute) (q : Refusal) : Type 0 where
  not_allowed : q ≡ SHAPE → OfAttribute shift k a q
  of_column : (c : Column) → same c.name a.name ≡ true → column_fits k c ≡ true → Memᴰ q (form_faults shift c.form a.value) → OfAttribute shift k a q

data OfElement (shift : ℕ) (p : Standing) (k : Kind) (attrs : List Attribute) (within : Kind → List Refusal) (q : Refusal) : Type 0 where
  of_attribute : (a : Attribute) → Memᴰ a attrs → OfAttribute shift k a q → OfElement shift p k attrs within q
  lacking : q ≡ SHAPE → OfElement shift p k attrs within q
  of_kids : Memᴰ q (within k) → OfElement shift p k attrs within q
  breaking : q ≡ RULE → OfElement shift p k attrs within q

module _ (shift : ℕ) {q : Refusal} where
  in_attribute : (p : Standing) (k : Kind) (a : Attribute) → Memᴰ q (attribute_faults shift p k a) → OfAttribute shift k a q
  unfolding attribute_faults every
  in_attribute p k a m = go (is_top p && begins (bytes "xmlns") a.name) _ refl m
    where
      columns : Standing → List Column
      columns p = type_columns p ++ null_columns k ++ (line_of k).columns

      fit : (p : Standing) → every (column_fits k) (columns p) ≡ true
      fit top = columns-fit k
      fit member = columns-fit k
      fit inside = columns-fit k

      go : (b : Bool) (o : Option Column) → find (λ c. same c.name a.name) (columns p) ≡ o
          → Memᴰ q (cond b [] (if_some o (λ c. form_faults shift c.form a.value) (SHAPE ∷ []))) → OfAttribute shift k a q
      go true o e m = absurd (Memᴰ.not-nil m)
      go false none e m = not_allowed (Memᴰ.eq_of_singleton m)
      go false (some c) e m = let (n, f) = found _ (column_fits k) (columns p) c (fit p) e in of_column c n f m

  in_element : (p : Standing) (k : Kind) (attrs : List Attribute) (kids : Nodes) (within : Kind → List Refusal) → Memᴰ q (element_faults shift p (some k) attrs kids within)
      → OfElement shift p k attrs within q
  unfolding element_faults
  in_element p k attrs kids within m = elim (Memᴰ.append_cases (own ++ missing ++ within k) m) [
    | inl m ↦ elim (Memᴰ.append_cases (own ++ missing) m) [
      | inl m ↦ elim (Memᴰ.append_cases own m) [
        | inl m ↦ let (a, i, n) = in_flat_map (attribute_faults shift p k) attrs m in of_attribute a i (in_attribute p k a n)
        | inr m ↦ lacking (in_when (exists (lacks attrs) (line_of k).columns) m)
      ]
      | inr m ↦ of_kids m
    ]
    | inr m ↦ breaking (in_when ((line_of k).invariant shift attrs kids || breaks_null k attrs kids) m)
  ]
    where
      own : List Refusal
      own = flat_map (attribute_faults shift p k) attrs

      missing : List Refusal
      missing = SHAPE when exists (lacks attrs) (line_of k).columns

abbrev pub kids_as : (shift : ℕ) → List Attribute → Nodes → Kind → List Refusal
kids_as shift attrs kids j = child_faults shift j (is_null attrs) 0 kids

-- of a child and those after it
data OfChildren (shift : ℕ) (k : Kind) (null : Bool) (stage : ℕ) (n : List ℕ) (attrs : List Attribute) (kids rest : Nodes) (q : Refusal) : Type 0 where
  strange : q ≡ SHAPE → OfChildren shift k null stage n attrs kids rest q
  untyped : q ≡ TYPE → OfChildren shift k null stage n attrs kids rest q
  of_child : (p : Standing) (j : Kind) → is_timed j ≡ is_timed k → OfElement shift p j attrs (kids_as shift attrs kids) q → OfChildren shift k null stage n attrs kids rest q
  of_rest : (to : ℕ) → Memᴰ q (child_faults shift k null to rest) → OfChildren shift k null stage n attrs kids rest q

in_children : (shift : ℕ) {q : Refusal} (k : Kind) (null : Bool) (stage : ℕ) (n : List ℕ) (attrs : List Attribute) (kids rest : Nodes)
    → Memᴰ q (child_faults shift k null stage (node n attrs kids rest)) → OfChildren shift k null stage n attrs kids rest q
unfolding child_faults element_faults
in_children shift {q} k null stage n attrs kids rest m =
    elim (Memᴰ.append_cases (if_some (next_child k stage n) (λ c. faults_as shift attrs kids c.kind) (SHAPE ∷ [])) m) [
      | inl m ↦ by_name (next_child k stage n) refl m
      | inr m ↦ of_rest _ m
    ]
  where
    by_kind : (c : Child) → next_child k stage n ≡ some c → (o : Option Kind) → kind_of c.kind attrs ≡ o
        → Memᴰ q (element_faults shift (standing_of c.kind) o attrs kids (kids_as shift attrs kids)) → OfChildren shift k null stage n attrs kids rest q
    by_kind c e none f m = untyped (Memᴰ.eq_of_singleton m)
    by_kind c e (some j) f m = of_child _ j (child_timed k stage n attrs c j e f) (in_element shift (standing_of c.kind) j attrs kids (kids_as shift attrs kids) m)

    by_name : (o : Option Child) → next_child k stage n ≡ o → Memᴰ q (if_some o (λ c. faults_as shift attrs kids c.kind) (SHAPE ∷ [])) → OfChildren shift k null stage n attrs kids rest q
    by_name none e m = strange (Memᴰ.eq_of_singleton m)
    by_name (some c) e m = by_kind c e (kind_of c.kind attrs) refl m

-- one of the three stands in an element of a kind that has times: only there is a column for a time
module _ (shift : ℕ) (r : Refusal) (part : IsPart r) where
  not-value : {A : Type 0} (b : Bool) → Memᴰ r (VALUE when b) → A
  not-value b m = not_part r part VALUE (λ p. omega (arith, p)) (in_when b m)

  time-form : (f : Form) (text : List ℕ) → Memᴰ r (form_faults shift f text) → is_time f ≡ true
  unfolding form_faults
  time-form timestamp text m = refl
  time-form any_text text m = absurd (Memᴰ.not-nil m)
  time-form non_empty text m = not-value (is_empty text) m
  time-form flavor text m = not-value (not (is_flavor text)) m
  time-form flag text m = not-value (not (is_flag text)) m
  time-form amount text m = not-value (not (is_some (whole amount_text text))) m
  time-form currency text m = not-value (not (is_currency text)) m
  time-form root text m = not-value (not (is_root text)) m
  time-form part_type text m = not-value (not (is_part_type text)) m
  time-form qualifiers text m = not-value (not (is_qualifiers text)) m

  element_timed : {p : Standing} {k : Kind} {attrs : List Attribute} {within : Kind → List Refusal} → (Memᴰ r (within k) → is_timed k ≡ true) → OfElement shift p k attrs within r
      → is_timed k ≡ true
  unfolding rank_in
  element_timed below (of_attribute a i (not_allowed e)) = not_part r part SHAPE (λ p. omega (arith, p)) e
  element_timed {k = k} below (of_attribute a i (of_column c n f m)) = rw (time-form c.form a.value m) at (both_true (not (is_time c.form) || is_timed k) _ f).0
  element_timed below (lacking e) = not_part r part SHAPE (λ p. omega (arith, p)) e
  element_timed below (of_kids m) = below m
  element_timed below (breaking e) = not_part r part RULE (λ p. omega (arith, p)) e

  children_timed : (k : Kind) (null : Bool) (stage : ℕ) (ns : Nodes) → Memᴰ r (child_faults shift k null stage ns) → is_timed k ≡ true
  unfolding child_faults rank_in
  children_timed k null stage end m = not_part r part SHAPE (λ p. omega (arith, p)) (in_when (not null && ltb stage (line_of k).enough) m)
  children_timed k null stage (node n attrs kids rest) m = elim (in_children shift k null stage n attrs kids rest m) [
    | strange e ↦ not_part r part SHAPE (λ p. omega (arith, p)) e
    | untyped e ↦ not_part r part TYPE (λ p. omega (arith, p)) e
    | of_child p j t h ↦ sym t ∙ element_timed (children_timed j (is_null attrs) 0 kids) h
    | of_rest to m ↦ children_timed k null to rest m
  ]

  pub record_timed : (p : Standing) (o : Option Kind) (attrs : List Attribute) (kids : Nodes) → Memᴰ r (element_faults shift p o attrs kids (kids_as shift attrs kids))
      → (k : Kind) × (o ≡ some k) × (is_timed k ≡ true)
  unfolding element_faults rank_in
  record_timed p none attrs kids m = not_part r part TYPE (λ p. omega (arith, p)) (Memᴰ.eq_of_singleton m)
  record_timed p (some k) attrs kids m = (k, refl, element_timed (children_timed k (is_null attrs) 0 kids) (in_element shift p k attrs kids (kids_as shift attrs kids) m))

-- a fault of a text, in an element of a kind that has times, is that of a text in it
abbrev pub own_texts : (name : List ℕ) → List Attribute → List (List ℕ)
own_texts name = flat_map (λ a. cond (same a.name name) (a.value ∷ []) [])

-- one of some texts, given by their name, has a fault
pub record HasFault (shift : ℕ) (q : Refusal) (texts : List ℕ → List (List ℕ)) : Type 0 where
  pub name : List ℕ
  pub form : Form
  pub is_text : IsText name form
  pub text : List ℕ
  pub stands : Memᴰ text (texts name)
  pub fault : Memᴰ q (form_faults shift form text)

pub among : {shift : ℕ} {q : Refusal} {s t : List ℕ → List (List ℕ)} → ((name : List ℕ) (text : List ℕ) → Memᴰ text (s name) → Memᴰ text (t name)) → HasFault shift q s → HasFault shift q t
among f h = record { name = h.name; form = h.form; is_text = h.is_text; text = h.text; stands = f h.name h.text h.stands; fault = h.fault }

module _ (shift : ℕ) (q : Refusal) (of-text : IsOfText q) where
  attribute-text : (attrs : List Attribute) (a : Attribute) → Memᴰ a attrs → (n : List ℕ) (f : Form) → same n a.name ≡ true → is_text_named n f ≡ true
      → Memᴰ q (form_faults shift f a.value) → HasFault shift q (λ name. own_texts name attrs)
  unfolding form_faults
  attribute-text attrs a i n f e t m = by_form f t m
    where
      named : {name : List ℕ} {form : Form} → IsText name form → same name n ≡ true → Memᴰ q (form_faults shift form a.value) → HasFault shift q (λ name. own_texts name attrs)
      named {name} {form} x t m =
          let z : a.name ≡ name = sym (same_true name n t ∙ same_true n a.name e) in
          record {
            name = name;
            form = form;
            is_text = x;
            text = a.value;
            stands = flat_map_in (λ a. cond (same a.name name) (a.value ∷ []) []) i (rw (z, same_refl name) (Memᴰ.head refl));
            fault = m;
          }

      by_flag : (b : Bool) → same (bytes "lowClosed") n ≡ b → (b || same (bytes "highClosed") n) ≡ true → Memᴰ q (form_faults shift flag a.value)
          → HasFault shift q (λ name. own_texts name attrs)
      by_flag true e t m = named low_text e m
      by_flag false e t m = named high_text t m

      by_form : (f : Form) → is_text_named n f ≡ true → Memᴰ q (form_faults shift f a.value) → HasFault shift q (λ name. own_texts name attrs)
      by_form timestamp t m = named time_text t m
      by_form flavor t m = named flavor_text t m
      by_form flag t m = by_flag (same (bytes "lowClosed") n) refl t m
      by_form any_text t m = absurd (Memᴰ.not-nil m)
      by_form non_empty t m = clash (cc)
      by_form amount t m = clash (cc)
      by_form currency t m = clash (cc)
      by_form root t m = clash (cc)
      by_form part_type t m = clash (cc)
      by_form qualifiers t m = clash (cc)

  named_timed : (a b : Bool) → b ≡ true → (a || not b) ≡ true → a ≡ true
  named_timed true b e f = refl
  named_timed false b e f = clash (cc (rw e at f))

  -- of an element's own texts or of those inside it
  element-text : {p : Standing} {k : Kind} {attrs : List Attribute} {within : Kind → List Refusal} (kids : Nodes) → is_timed k ≡ true
      → (Memᴰ q (within k) → HasFault shift q (λ name. texts_in name kids)) → OfElement shift p k attrs within q → HasFault shift q (λ name. own_texts name attrs ++ texts_in name kids)
  unfolding rank_in
  element-text kids t below (of_attribute a i (not_allowed e)) = not_of_text q of-text SHAPE (λ p. omega (arith, p)) e
  element-text {k = k} {attrs = attrs} kids t below (of_attribute a i (of_column c n f m)) =
      let g = named_timed (is_text_named c.name c.form) (is_timed k) t (both_true (not (is_time c.form) || is_timed k) _ f).1 in
      among (λ name text j. Memᴰ.append_left (texts_in name kids) j) (attribute-text attrs a i c.name c.form n g m)
  element-text kids t below (lacking e) = not_of_text q of-text SHAPE (λ p. omega (arith, p)) e
  element-text {attrs = attrs} kids t below (of_kids m) = among (λ name text j. Memᴰ.append_right (own_texts name attrs) j) (below m)
  element-text kids t below (breaking e) = not_of_text q of-text RULE (λ p. omega (arith, p)) e

  children-text : (k : Kind) (null : Bool) (stage : ℕ) (ns : Nodes) → is_timed k ≡ true → Memᴰ q (child_faults shift k null stage ns) → HasFault shift q (λ name. texts_in name ns)
  unfolding child_faults texts_in rank_in
  children-text k null stage end t m = not_of_text q of-text SHAPE (λ p. omega (arith, p)) (in_when (not null && ltb stage (line_of k).enough) m)
  children-text k null stage (node n attrs kids rest) t m = elim (in_children shift k null stage n attrs kids rest m) [
    | strange e ↦ not_of_text q of-text SHAPE (λ p. omega (arith, p)) e
    | untyped e ↦ not_of_text q of-text TYPE (λ p. omega (arith, p)) e
    | of_child p j u h ↦
        among (λ name text i. Memᴰ.append_left (texts_in name rest) i) (element-text kids (u ∙ t) (children-text j (is_null attrs) 0 kids (u ∙ t)) h)
    | of_rest to m ↦ among (λ name text i. Memᴰ.append_right (own_texts name attrs ++ texts_in name kids) i) (children-text k null to rest t m)
  ]

  pub element-fault : (p : Standing) (k : Kind) (attrs : List Attribute) (kids : Nodes) → is_timed k ≡ true → Memᴰ q (element_faults shift p (some k) attrs kids (kids_as shift attrs kids))
      → HasFault shift q (λ name. own_texts name attrs ++ texts_in name kids)
  element-fault p k attrs kids t m = element-text kids t (children-text k (is_null attrs) 0 kids t) (in_element shift p k attrs kids (kids_as shift attrs kids) m)

-- Where nothing is wrong by TYPE or SHAPE, the fault of a text is a fault of the element that it stands in.
abbrev pub IsClean : List Refusal → Type 0
IsClean faults = (Memᴰ TYPE faults → ⊥) × (Memᴰ SHAPE faults → ⊥)

clean_first : {a : List Refusal} (b : List Refusal) → IsClean (a ++ b) → IsClean a
clean_first b (f, g) = (λ m. f (Memᴰ.append_left b m), λ m. g (Memᴰ.append_left b m))

clean_last : (a : List Refusal) {b : List Refusal} → IsClean (a ++ b) → IsClean b
clean_last a (f, g) = (λ m. f (Memᴰ.append_right a m), λ m. g (Memᴰ.append_right a m))

-- the column for a text, if a kind has one
abbrev column_for : (name : List ℕ) → Kind → Option Column
column_for name k = find (λ c. same c.name name) (null_columns k ++ (line_of k).columns)

data ColumnFor (name : List ℕ) (form : Form) (k : Kind) : Type 0 where
  no_column : column_for name k ≡ none → ColumnFor name form k
  a_column : (c : Column) → column_for name k ≡ some c → c.form ≡ form → ColumnFor name form k

column_for_lem : {name : List ℕ} {form : Form} → IsText name form → (k : Kind) → is_timed k ≡ true → ColumnFor name form k
unfolding line_of find same exists
column_for_lem time_text TS t = a_column _ refl refl
column_for_lem flavor_text TS t = a_column _ refl refl
column_for_lem low_text TS t = no_column refl
column_for_lem high_text TS t = no_column refl
column_for_lem time_text IVL_TS t = no_column refl
column_for_lem flavor_text IVL_TS t = a_column _ refl refl
column_for_lem low_text IVL_TS t = a_column _ refl refl
column_for_lem high_text IVL_TS t = a_column _ refl refl
column_for_lem time_text QSU_TS t = no_column refl
column_for_lem flavor_text QSU_TS t = a_column _ refl refl
column_for_lem low_text QSU_TS t = no_column refl
column_for_lem high_text QSU_TS t = no_column refl
column_for_lem time_text QSI_TS t = no_column refl
column_for_lem flavor_text QSI_TS t = a_column _ refl refl
column_for_lem low_text QSI_TS t = no_column refl
column_for_lem high_text QSI_TS t = no_column refl
column_for_lem time_text QSD_TS t = no_column refl
column_for_lem flavor_text QSD_TS t = a_column _ refl refl
column_for_lem low_text QSD_TS t = no_column refl
column_for_lem high_text QSD_TS t = no_column refl
column_for_lem x MO t = clash (cc)
column_for_lem x II t = clash (cc)
column_for_lem x CD t = clash (cc)
column_for_lem x EN t = clash (cc)
column_for_lem x DisplayName t = clash (cc)
column_for_lem x Part t = clash (cc)

module _ (shift : ℕ) where
  at_name : (p : Standing) (k : Kind) (a : Attribute) → same (bytes "xsi:type") a.name ≡ false → begins (bytes "xmlns") a.name ≡ false
      → attribute_faults shift p k a ≡ if_some (column_for a.name k) (λ c. form_faults shift c.form a.value) (SHAPE ∷ [])
  unfolding attribute_faults find
  at_name top k a f g = rw (f, g) refl
  at_name member k a f g = rw f refl
  at_name inside k a f g = refl

  -- an attribute that is neither `xsi:type` nor `xmlns..` is judged by that column
  column_faults : (p : Standing) (k : Kind) (a : Attribute) (name : List ℕ) → same (bytes "xsi:type") name ≡ false → begins (bytes "xmlns") name ≡ false → a.name ≡ name
      → attribute_faults shift p k a ≡ if_some (column_for name k) (λ c. form_faults shift c.form a.value) (SHAPE ∷ [])
  column_faults p k a name f g e = subst (λ (n : List ℕ). same (bytes "xsi:type") n ≡ false → begins (bytes "xmlns") n ≡ false → attribute_faults shift p k a ≡ if_some (column_for n k) (λ c. form_faults shift c.form a.value) (SHAPE ∷ [])) e (at_name p k a) f g

  text_faults : {name : List ℕ} {form : Form} → IsText name form → (p : Standing) (k : Kind) (a : Attribute) → a.name ≡ name
      → attribute_faults shift p k a ≡ if_some (column_for name k) (λ c. form_faults shift c.form a.value) (SHAPE ∷ [])
  unfolding same begins
  text_faults time_text p k a e = column_faults p k a (bytes "value") refl refl e
  text_faults flavor_text p k a e = column_faults p k a (bytes "nullFlavor") refl refl e
  text_faults low_text p k a e = column_faults p k a (bytes "lowClosed") refl refl e
  text_faults high_text p k a e = column_faults p k a (bytes "highClosed") refl refl e

  module _ (q : Refusal) where
    fault_in_attribute : {name : List ℕ} {form : Form} → IsText name form → (p : Standing) (k : Kind) → is_timed k ≡ true → (a : Attribute) → a.name ≡ name
        → (Memᴰ SHAPE (attribute_faults shift p k a) → ⊥) → Memᴰ q (form_faults shift form a.value) → Memᴰ q (attribute_faults shift p k a)
    fault_in_attribute x p k t a e n m = elim (column_for_lem x k t) [
      | no_column f ↦ absurd (n (rw (text_faults x p k a e, f) (Memᴰ.head refl)))
      | a_column c f g ↦ rw (text_faults x p k a e, f, g) m
    ]

    in_texts : {name : List ℕ} (a : Attribute) {text : List ℕ} → Memᴰ text (cond (same a.name name) (a.value ∷ []) []) → (a.name ≡ name) × (text ≡ a.value)
    in_texts {name} a {text} m = go (same a.name name) refl m
      where
        go : (b : Bool) → same a.name name ≡ b → Memᴰ text (cond b (a.value ∷ []) []) → (a.name ≡ name) × (text ≡ a.value)
        go true e m = (same_true a.name name e, Memᴰ.eq_of_singleton m)
        go false e m = absurd (Memᴰ.not-nil m)

    fault_in_attributes : (p : Standing) (k : Kind) (attrs : List Attribute) → is_timed k ≡ true → IsClean (flat_map (attribute_faults shift p k) attrs)
        → HasFault shift q (λ name. own_texts name attrs) → Memᴰ q (flat_map (attribute_faults shift p k) attrs)
    fault_in_attributes p k attrs t (c, d) h =
        let (a, j, m) = in_flat_map (λ a. cond (same a.name h.name) (a.value ∷ []) []) attrs h.stands in
        let (e, f) = in_texts a m in
        flat_map_in (attribute_faults shift p k) j
        (fault_in_attribute h.is_text p k t a e (λ n. d (flat_map_in (attribute_faults shift p k) j n)) (subst (λ v. Memᴰ q (form_faults shift h.form v)) f h.fault))

    -- which texts of two have the fault
    either : {s t : List ℕ → List (List ℕ)} → HasFault shift q (λ name. s name ++ t name) → HasFault shift q s ⊎ HasFault shift q t
    either {s} h = elim (Memᴰ.append_cases (s h.name) h.stands) [
      | inl i ↦ inl (record { name = h.name; form = h.form; is_text = h.is_text; text = h.text; stands = i; fault = h.fault })
      | inr i ↦ inr (record { name = h.name; form = h.form; is_text = h.is_text; text = h.text; stands = i; fault = h.fault })
    ]

    pub fault_in_element : (p : Standing) (k : Kind) (attrs : List Attribute) (kids : Nodes) (within : Kind → List Refusal) → is_timed k ≡ true
        → (IsClean (within k) → HasFault shift q (λ name. texts_in name kids) → Memᴰ q (within k)) → IsClean (element_faults shift p (some k) attrs kids within)
        → HasFault shift q (λ name. own_texts name attrs ++ texts_in name kids) → Memᴰ q (element_faults shift p (some k) attrs kids within)
    unfolding element_faults
    fault_in_element p k attrs kids within t below c h =
        Memᴰ.append_left {s = own ++ missing ++ within k} broken (elim (either {s = λ name. own_texts name attrs} {t = λ name. texts_in name kids} h) [
          | inl h ↦ Memᴰ.append_left (within k) (Memᴰ.append_left missing (fault_in_attributes p k attrs t (clean_first missing (clean_first (within k) (clean_first broken c))) h))
          | inr h ↦ Memᴰ.append_right (own ++ missing) (below (clean_last (own ++ missing) (clean_first broken c)) h)
        ])
      where
        own : List Refusal
        own = flat_map (attribute_faults shift p k) attrs

        missing : List Refusal
        missing = SHAPE when exists (lacks attrs) (line_of k).columns

        broken : List Refusal
        broken = RULE when ((line_of k).invariant shift attrs kids || breaks_null k attrs kids)

    pub fault_in_children : (k : Kind) (null : Bool) (stage : ℕ) (ns : Nodes) → is_timed k ≡ true → IsClean (child_faults shift k null stage ns)
        → HasFault shift q (λ name. texts_in name ns) → Memᴰ q (child_faults shift k null stage ns)
    unfolding child_faults texts_in element_faults
    fault_in_children k null stage end t c h = absurd (Memᴰ.not-nil h.stands)
    fault_in_children k null stage (node n attrs kids rest) t c h =
        elim (either {s = λ name. own_texts name attrs ++ texts_in name kids} {t = λ name. texts_in name rest} h) [
          | inl h ↦ Memᴰ.append_left after (by_name (next_child k stage n) refl (λ j. fault_in_children j (is_null attrs) 0 kids) (clean_first after c) h)
          | inr h ↦ Memᴰ.append_right (this (next_child k stage n)) (fault_in_children k null _ rest t (clean_last (this (next_child k stage n)) c) h)
        ]
      where
        this : Option Child → List Refusal
        this o = if_some o (λ c. faults_as shift attrs kids c.kind) (SHAPE ∷ [])

        after : List Refusal
        after = child_faults shift k null (if_some (next_child k stage n) (λ c. c.to) stage) rest

        Below : Type 0
        Below = (j : Kind) → is_timed j ≡ true → IsClean (kids_as shift attrs kids j) → HasFault shift q (λ name. texts_in name kids) → Memᴰ q (kids_as shift attrs kids j)

        by_kind : (p : Standing) (o : Option Kind) → ((j : Kind) → o ≡ some j → is_timed j ≡ true) → Below → IsClean (element_faults shift p o attrs kids (kids_as shift attrs kids))
            → HasFault shift q (λ name. own_texts name attrs ++ texts_in name kids) → Memᴰ q (element_faults shift p o attrs kids (kids_as shift attrs kids))
        by_kind p none timed below (f, g) h = absurd (f (Memᴰ.head refl))
        by_kind p (some j) timed below c h = fault_in_element p j attrs kids (kids_as shift attrs kids) (timed j refl) (below j (timed j refl)) c h

        by_name : (o : Option Child) → next_child k stage n ≡ o → Below → IsClean (this o) → HasFault shift q (λ name. own_texts name attrs ++ texts_in name kids) → Memᴰ q (this o)
        by_name none e below (f, g) h = absurd (g (Memᴰ.head refl))
        by_name (some c) e below d h = by_kind (standing_of c.kind) (kind_of c.kind attrs) (λ j f. child_timed k stage n attrs c j e f ∙ t) below d h
