-- In an accepted record `xsi:type` stands on the top element and on members of sets alone.
use Prim.Native.Nat.{ℕ, ◌+◌}
use mathlib.Core.Path.{◌≡◌, refl, sym, ◌∙◌, ap}
use mathlib.Core.Bool.{Bool, true, false, not, ◌||◌, cond, or-false, or_assoc, not-not}
use mathlib.Core.List.{List, [], ◌∷◌, ◌++◌, flat_map, append-eq-nil_iff}
use mathlib.Core.Option.{Option, none, some}
use native.Mathlib.Omega.{arith}
use native.Mathlib.Nat.{zero-add, add-zero, add_assoc}
use borrow.Author.Tests.{not-true, not-false}
use lib.Dec.{ltb}
use lib.ListN.{length, length-append}
use Rattle.rules.specs.Basics.{is_some, if_some, find, bytes, same}
use Rattle.rules.specs.Refusal.{Refusal, SHAPE, RULE, UNKNOWN_BOUND, Outcome, answered, refused, ◌and_then◌, both, ◌when◌}
use Rattle.rules.specs.Markup.{Attribute, Nodes, end, node, Element, lookup}
use Rattle.rules.specs.Invariants.{is_null, low, high, Endpoint, valued, infinite, unknown, endpoint_of}
use Rattle.rules.specs.Types.{Kind, TS, IVL_TS, QSU_TS, QSI_TS, QSD_TS, name_of, member_types, all_types, has_type, type_among, ChildKind, always, typed, Child, line_of}
use Rattle.rules.specs.Judge.{Standing, top, member, inside, attribute_faults, breaks_null, element_faults, next_child, child_faults, top_faults}
use Rattle.rules.specs.Sets.{◌upto◌, Op, union, intersection, difference, Expression, interval, combine, intervals}
use Rattle.rules.specs.Listing.{bound_read, operation_of, set_from, members_of, joined, set_of, interval_count, intervals_written}
use Rattle.rules.specs.ListingPromise.{is_unknown, is_unclear, has_unclear, is_clear, is_listed}
use Rattle.rules.proofs.Tests.{clash, same_true}
use Rattle.rules.proofs.Children.{faults_as, each-child}

-- every child of a list has this kind
abbrev AllOf : ChildKind → List Child → Type 0
AllOf k [] = Unit {0}
AllOf k (c ∷ cs) = (c.kind ≡ k) × AllOf k cs

found_kind : {k : ChildKind} (p : Child → Bool) (cs : List Child) (c : Child) → AllOf k cs → find p cs ≡ some c → c.kind ≡ k
unfolding find
found_kind p [] c h e = clash (cc)
found_kind {k} p (d ∷ cs) c h e = go (p d) e (found_kind p cs c h.1)
  where
    go : (b : Bool) → cond b (some d) (find p cs) ≡ some c → (find p cs ≡ some c → c.kind ≡ k) → c.kind ≡ k
    go true e below = let z : d ≡ c = cc in rw z at h.0
    go false e below = below e

module _ (shift : ℕ) (k : Kind) (ck : ChildKind) (all : AllOf ck (line_of k).children) (null : Bool) where
  -- the first of children without fault is of this kind, and neither it nor those after it have faults
  first_faultless : (stage : ℕ) (n : List ℕ) (attrs : List Attribute) (kids rest : Nodes) → child_faults shift k null stage (node n attrs kids rest) ≡ []
      → (faults_as shift attrs kids ck ≡ []) × ((later : ℕ) × (child_faults shift k null later rest ≡ []))
  first_faultless stage n attrs kids rest e = go (next_child k stage n) refl (sym (each-child shift k null stage n attrs kids rest) ∙ e)
    where
      go : (o : Option Child) → next_child k stage n ≡ o
          → if_some o (λ c. faults_as shift attrs kids c.kind) (SHAPE ∷ []) ++ child_faults shift k null (if_some o (λ c. c.to) stage) rest ≡ []
          → (faults_as shift attrs kids ck ≡ []) × ((later : ℕ) × (child_faults shift k null later rest ≡ []))
      go none d e = clash (cc)
      go (some c) d e =
          let (f, g) = append-eq-nil_iff.0 e in
          (ap (faults_as shift attrs kids) (sym (found_kind _ (line_of k).children c all d)) ∙ f, (c.to, g))

-- attributes and children of an element without fault, and the invariant of its kind
pub element_faultless : (shift : ℕ) (p : Standing) (k : Kind) (attrs : List Attribute) (kids : Nodes) (within : Kind → List Refusal)
    → element_faults shift p (some k) attrs kids within ≡ []
    → (flat_map (attribute_faults shift p k) attrs ≡ []) × (within k ≡ []) × ((line_of k).invariant shift attrs kids ≡ false)
unfolding element_faults
element_faultless shift p k attrs kids within e =
    let (a, c, d) = go _ _ _ _ e in
    (a, c, unbroken ((line_of k).invariant shift attrs kids) (breaks_null k attrs kids) d)
  where
    go : (a b c d : List Refusal) → a ++ b ++ c ++ d ≡ [] → (a ≡ []) × (c ≡ []) × (d ≡ [])
    go a b c d e =
        let (f, g) = (append-eq-nil_iff {p = a ++ b ++ c}).0 e in
        let (h, i) = (append-eq-nil_iff {p = a ++ b}).0 f in
        (((append-eq-nil_iff {p = a}).0 h).0, i, g)

    unbroken : (a b : Bool) → (RULE when (a || b)) ≡ [] → a ≡ false
    unbroken true b e = clash (cc)
    unbroken false b e = refl

abbrev type_name : List ℕ
type_name = bytes "xsi:type"

module _ (shift : ℕ) where
  type-not_allowed : (a : Attribute) → a.name ≡ type_name → attribute_faults shift inside TS a ≡ SHAPE ∷ []
  unfolding attribute_faults line_of find same
  type-not_allowed a e = rw e

  -- a TS inside another value names no type
  untyped : (attrs : List Attribute) → flat_map (attribute_faults shift inside TS) attrs ≡ [] → lookup type_name attrs ≡ none
  unfolding flat_map lookup
  untyped [] e = refl
  untyped (a ∷ attrs) e = let (f, g) = append-eq-nil_iff.0 e in go (same a.name type_name) refl f (untyped attrs g)
    where
      go : (b : Bool) → same a.name type_name ≡ b → attribute_faults shift inside TS a ≡ [] → lookup type_name attrs ≡ none
          → cond b (some a.value) (lookup type_name attrs) ≡ none
      go true d f g = clash (cc (type-not_allowed a (same_true a.name type_name d)))
      go false d f g = g

  -- and has no children
  childless : (null : Bool) (kids : Nodes) → child_faults shift TS null 0 kids ≡ [] → kids ≡ end
  unfolding child_faults line_of find
  childless null end e = refl
  childless null (node n attrs kids rest) e = clash (cc)

  -- an element that names no type is no interval, no set and no member
  no_type : (attrs : List Attribute) → lookup type_name attrs ≡ none → (k : Kind) → has_type attrs k ≡ false
  no_type attrs e k = rw e

  time_faultless : (attrs : List Attribute) (kids : Nodes) → faults_as shift attrs kids (always TS) ≡ [] → (lookup type_name attrs ≡ none) × (kids ≡ end)
  time_faultless attrs kids e = let (f, g, h) = element_faultless shift inside TS attrs kids _ e in (untyped attrs f, childless (is_null attrs) kids g)

  -- the bounds of an interval are no intervals
  bounds-count : (null : Bool) (stage : ℕ) (kids : Nodes) → child_faults shift IVL_TS null stage kids ≡ [] → (interval_count kids ≡ 0) × (has_unclear shift kids ≡ false)
  unfolding interval_count has_unclear line_of find
  bounds-count null stage end e = (refl, refl)
  bounds-count null stage (node n attrs kids rest) e =
      let (f, (later, g)) = first_faultless shift IVL_TS (always TS) (refl, (refl, tt)) null stage n attrs kids rest e in
      let (t, z) = time_faultless attrs kids f in
      let (c, u) = bounds-count null later rest g in
      (rw (t, z, c), rw (t, z, u))

-- a set type: its children are members, and it has one at least
record IsSet (k : Kind) : Type 0 where
  members : AllOf typed (line_of k).children
  any : ltb 0 (line_of k).enough ≡ true

-- what a member is, by its type
data IsMember (attrs : List Attribute) : Kind → Type 0 where
  an_interval : has_type attrs IVL_TS ≡ true → IsMember attrs IVL_TS
  a_set : {k : Kind} (o : Op) → IsSet k → has_type attrs IVL_TS ≡ false → operation_of attrs ≡ some o → IsMember attrs k

is_member : (attrs : List Attribute) (j : Kind) → type_among member_types attrs ≡ some j → IsMember attrs j
unfolding find line_of
is_member attrs j = go _ _ _ _ refl refl refl refl
  where
    go : (a b c d : Bool) → has_type attrs IVL_TS ≡ a → has_type attrs QSU_TS ≡ b → has_type attrs QSI_TS ≡ c → has_type attrs QSD_TS ≡ d
        → cond a (some IVL_TS) (cond b (some QSU_TS) (cond c (some QSI_TS) (cond d (some QSD_TS) none))) ≡ some j → IsMember attrs j
    go true b c d f g h i e = let z : IVL_TS ≡ j = cc in rw z at (an_interval f)
    go false true c d f g h i e = let z : QSU_TS ≡ j = cc in rw z at (a_set {k = QSU_TS} union (record { members = (refl, tt); any = refl }) f (rw g))
    go false false true d f g h i e = let z : QSI_TS ≡ j = cc in rw z at (a_set {k = QSI_TS} intersection (record { members = (refl, tt); any = refl }) f (rw (g, h)))
    go false false false true f g h i e =
        let z : QSD_TS ≡ j = cc in rw z at (a_set {k = QSD_TS} difference (record { members = (refl, (refl, tt)); any = refl }) f (rw (g, h, i)))
    go false false false false f g h i e = clash (cc)

-- a set with n intervals, or UNKNOWN BOUND where something is unclear
data Written (n : ℕ) : (unclear : Bool) → Outcome Expression → Type 0 where
  known : {s : Expression} → length (intervals s) ≡ n → Written n false (answered s)
  unknown_bound : Written n true (refused UNKNOWN_BOUND)

written-answered : {n : ℕ} {b : Bool} {s : Expression} → Written n b (answered s) → (length (intervals s) ≡ n) × (b ≡ false)
written-answered (known h) = (h, refl)

written-refused : {n : ℕ} {b : Bool} {r : Refusal} → Written n b (refused r) → (r ≡ UNKNOWN_BOUND) × (b ≡ true)
written-refused unknown_bound = (refl, refl)

combined_written : (o : Op) {m n : ℕ} {a b : Bool} {x y : Outcome Expression} → Written m a x → Written n b y → Written (m + n) (a || b) (both (combine o) x y)
unfolding intervals
combined_written o (known {s = x} h) (known {s = y} k) = known {s = combine o x y} (rw length-append (omega arith))
combined_written o (known h) unknown_bound = unknown_bound
combined_written o unknown_bound k = unknown_bound

interval-written : (c d : Bool) (l h : Endpoint) → Written (1 + 0) (is_unknown l || is_unknown h || false) (both ◌upto◌ (bound_read low c l) (bound_read high d h) and_then λ v. answered (interval v))
unfolding intervals
interval-written c d (valued m) (valued n) = known refl
interval-written c d (valued m) infinite = known refl
interval-written c d (valued m) unknown = unknown_bound
interval-written c d infinite (valued n) = known refl
interval-written c d infinite infinite = known refl
interval-written c d infinite unknown = unknown_bound
interval-written c d unknown h = unknown_bound

module _ (shift : ℕ) where
  set-written : (attrs : List Attribute) (kids : Nodes) (j : Kind) → type_among member_types attrs ≡ some j → child_faults shift j (is_null attrs) 0 kids ≡ []
      → ((k : Kind) → IsSet k → child_faults shift k false 0 kids ≡ [] → (o : Op) → Written (interval_count kids) (has_unclear shift kids) (members_of shift o kids))
      → Written (cond (has_type attrs IVL_TS) 1 0 + interval_count kids) (is_unclear shift attrs kids || has_unclear shift kids) (set_from shift attrs kids (λ o. members_of shift o kids))
  unfolding set_from
  set-written attrs kids j t e below = go (is_null attrs) refl (is_member attrs j t) e
    where
      go : (b : Bool) → is_null attrs ≡ b → {k : Kind} → IsMember attrs k → child_faults shift k b 0 kids ≡ []
          → Written (cond (has_type attrs IVL_TS) 1 0 + interval_count kids) (is_unclear shift attrs kids || has_unclear shift kids) (set_from shift attrs kids (λ o. members_of shift o kids))
      go true n m f = rw (t, n) unknown_bound
      go false n (an_interval h) f =
          let (c, u) = bounds-count shift false 0 kids f in
          rw (t, n, h, c, u) (interval-written _ _ (endpoint_of shift low kids) (endpoint_of shift high kids))
      go false n (a_set {k = k} o s h i) f = rw (t, n, h, i, zero-add) (below k s f o)

  member_faultless : (attrs : List Attribute) (kids : Nodes) → faults_as shift attrs kids typed ≡ []
      → (j : Kind) × (type_among member_types attrs ≡ some j) × (child_faults shift j (is_null attrs) 0 kids ≡ [])
  unfolding element_faults
  member_faultless attrs kids e = go _ refl e
    where
      go : (o : Option Kind) → type_among member_types attrs ≡ o → element_faults shift member o attrs kids (λ j. child_faults shift j (is_null attrs) 0 kids) ≡ []
          → (j : Kind) × (type_among member_types attrs ≡ some j) × (child_faults shift j (is_null attrs) 0 kids ≡ [])
      go none t e = clash (cc)
      go (some j) t e = (j, t, (element_faultless shift member j attrs kids (λ i. child_faults shift i (is_null attrs) 0 kids) e).1)

  mutual
    unfolding members_of joined interval_count has_unclear child_faults

    members_written : (k : Kind) → IsSet k → (o : Op) (ns : Nodes) → child_faults shift k false 0 ns ≡ [] → Written (interval_count ns) (has_unclear shift ns) (members_of shift o ns)
    members_written k s o end e = let z : SHAPE ∷ [] ≡ [] = rw s.any at e in clash (cc)
    members_written k s o (node n attrs kids rest) e =
        let (f, (later, g)) = first_faultless shift k typed s.members false 0 n attrs kids rest e in
        let (j, t, h) = member_faultless attrs kids f in
        joined-written k s o later rest g (set-written attrs kids j t h (λ k s e o. members_written k s o kids e))

    joined-written : (k : Kind) → IsSet k → (o : Op) (stage : ℕ) (ns : Nodes) → child_faults shift k false stage ns ≡ []
        → {m : ℕ} {b : Bool} {so_far : Outcome Expression} → Written m b so_far → Written (m + interval_count ns) (b || has_unclear shift ns) (joined shift o so_far ns)
    joined-written k s o stage end e {b = b} h = rw (add-zero, or-false b) h
    joined-written k s o stage (node n attrs kids rest) e {b = b} w =
        let (f, (later, g)) = first_faultless shift k typed s.members false stage n attrs kids rest e in
        let (j, t, h) = member_faultless attrs kids f in
        rw (← add_assoc, ← or_assoc b (is_unclear shift attrs kids || has_unclear shift kids))
        (joined-written k s o later rest g (combined_written o w (set-written attrs kids j t h (λ k s e o. members_written k s o kids e))))

-- the type that an element has is the one that it names
pub type-is : (attrs : List Attribute) (k : Kind) → has_type attrs k ≡ true → lookup type_name attrs ≡ some (name_of k)
type-is attrs k = go (lookup type_name attrs)
  where
    go : (o : Option (List ℕ)) → if_some o (same (name_of k)) false ≡ true → o ≡ some (name_of k)
    go none e = clash (cc)
    go (some text) e = ap some (sym (same_true (name_of k) text e))

-- a member's type is one of all types
type_among_all : (attrs : List Attribute) (j : Kind) → type_among member_types attrs ≡ some j → type_among all_types attrs ≡ some j
unfolding find same
type_among_all attrs j = go _ _ _ _ refl refl refl refl
  where
    go : (a b c d : Bool) → has_type attrs IVL_TS ≡ a → has_type attrs QSU_TS ≡ b → has_type attrs QSI_TS ≡ c → has_type attrs QSD_TS ≡ d
        → cond a (some IVL_TS) (cond b (some QSU_TS) (cond c (some QSI_TS) (cond d (some QSD_TS) none))) ≡ some j → type_among all_types attrs ≡ some j
    go true b c d f g h i e = rw (type-is attrs IVL_TS f) e
    go false true c d f g h i e = rw (type-is attrs QSU_TS g) e
    go false false true d f g h i e = rw (type-is attrs QSI_TS h) e
    go false false false true f g h i e = rw (type-is attrs QSD_TS i) e
    go false false false false f g h i e = clash (cc)

module _ (shift : ℕ) (e : Element) (faultless : top_faults shift e ≡ []) (listed : is_listed e ≡ true) where
  top-written : Written (intervals_written e) (not (is_clear shift e)) (set_of shift e)
  unfolding interval_count has_unclear
  top-written = go _ refl listed
    where
      go : (o : Option Kind) → type_among member_types e.attrs ≡ o → is_some o ≡ true → Written (intervals_written e) (not (is_clear shift e)) (set_of shift e)
      go none t s = clash (cc)
      go (some j) t s =
          let z : element_faults shift top (some j) e.attrs e.kids (λ k. child_faults shift k (is_null e.attrs) 0 e.kids) ≡ []
          = rw (type_among_all e.attrs j t) at faultless in
          rw (add-zero, or-false, not-not)
          (set-written shift e.attrs e.kids j t (element_faultless shift top j e.attrs e.kids _ z).1 (λ k s f o. members_written shift k s o e.kids f))

  -- the set has as many intervals as are written
  pub set-intervals : {s : Expression} → set_of shift e ≡ answered s → length (intervals s) ≡ intervals_written e
  set-intervals h = (written-answered (rw h at top-written)).0

  pub set-clear : {s : Expression} → set_of shift e ≡ answered s → is_clear shift e ≡ true
  set-clear h = not-false _ (written-answered (rw h at top-written)).1

  -- it is refused as UNKNOWN BOUND alone
  pub set-refused : {r : Refusal} → set_of shift e ≡ refused r → r ≡ UNKNOWN_BOUND
  set-refused h = (written-refused (rw h at top-written)).0

  pub clear-set : is_clear shift e ≡ true → (s : Expression) × (set_of shift e ≡ answered s)
  clear-set c = go (set_of shift e) top-written
    where
      go : (o : Outcome Expression) → Written (intervals_written e) (not (is_clear shift e)) o → (s : Expression) × (o ≡ answered s)
      go (answered s) w = (s, refl)
      go (refused r) w = clash (cc (not-true (is_clear shift e) (written-refused w).1))

  pub unclear_set : is_clear shift e ≡ false → set_of shift e ≡ refused UNKNOWN_BOUND
  unclear_set c = go (set_of shift e) top-written
    where
      go : (o : Outcome Expression) → Written (intervals_written e) (not (is_clear shift e)) o → o ≡ refused UNKNOWN_BOUND
      go (answered s) w = clash (cc (not-false (is_clear shift e) (written-answered w).1))
      go (refused r) w = ap refused (written-refused w).0
