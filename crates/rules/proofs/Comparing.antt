-- The comparers of the types: each is symmetric, says yes of a value and itself exactly where nothing is null or missing, else unknown, and
-- never says yes elsewhere.
use Prim.Native.Nat.{ℕ}
use mathlib.Core.Path.{◌≡◌, refl, ◌∙◌, ap, subst}
use mathlib.Core.Bool.{Bool, true, false, not, ◌&&◌, ◌||◌, cond, and_comm, and-true, or_comm}
use mathlib.Core.List.{List, [], ◌∷◌, flat_map, append-eq-nil_iff}
use mathlib.Core.Option.{Option, none, some}
use native.Mathlib.Omega.{arith}
use borrow.Author.Tests.{le-leb}
use lib.Dec.{ltb}
use lib.IntN.{ℤ, pos, negsuc}
use lib.Signed.{le_z}
use Rattle.rules.specs.Basics.{is_some, if_some, exactly_one, find, bytes, same, begins}
use Rattle.rules.specs.Refusal.{Refusal, Outcome, answered, refused, faults_of}
use Rattle.rules.specs.Markup.{Attribute, Nodes, end, node, Element, lookup}
use Rattle.rules.specs.Timestamp.{Moment, read_timestamp}
use Rattle.rules.specs.Forms.{form_faults}
use Rattle.rules.specs.Invariants.{has, is_null, Side, low, high, Endpoint, valued, infinite, unknown, endpoint_read, endpoint_valued, endpoint_of}
use Rattle.rules.specs.Types.{Kind, TS, IVL_TS, QSU_TS, QSI_TS, QSD_TS, MO, II, CD, EN, DisplayName, Part, name_of, line_of}
use Rattle.rules.specs.Judge.{top, attribute_faults, element_faults}
use Rattle.rules.specs.Comparison.{Answer, Yes, No, Unknown, answer, ◌also◌, same_option, same_attribute, Comparer, compare_moments, compare_endpoints, compare_sides, compare_intervals, amount_of, same_amount, compare_money, compare_identifiers, compare_codes, compare_parts, compare_all_parts, comparer_of}
use Rattle.rules.specs.ListingPromise.{is_unknown}
use Rattle.rules.specs.ComparisonPromise.{has_null_part, has_sides, is_complete}
use Rattle.rules.proofs.Tests.{clash, eqb_refl, eqb_sym, same_true, same_refl, same_sym}
use Rattle.rules.proofs.Members.{element_faultless}

-- symmetric

option_sym : {A : Type 0} (test : A → A → Bool) → ((a b : A) → test a b ≡ test b a) → (x y : Option A) → same_option test x y ≡ same_option test y x
option_sym test h none none = refl
option_sym test h none (some b) = refl
option_sym test h (some a) none = refl
option_sym test h (some a) (some b) = h a b

attribute_sym : (n : List ℕ) (as' bs : List Attribute) → same_attribute n as' bs ≡ same_attribute n bs as'
attribute_sym n as' bs = option_sym same same_sym (lookup n as') (lookup n bs)

amount_sym : (m n : ℤ) → same_amount m n ≡ same_amount n m
amount_sym m n = and_comm (le_z m n) (le_z n m)

moments_sym : (a b : Moment) → compare_moments a b ≡ compare_moments b a
unfolding compare_moments
moments_sym a b =
    rw (eqb_sym a.precision b.precision, eqb_sym a.start b.start, and_comm (ltb a.start b.next) (ltb b.start a.next))

endpoints_sym : (flags : Bool) (a b : Endpoint) → compare_endpoints flags a b ≡ compare_endpoints flags b a
endpoints_sym flags (valued a) (valued b) = ap (λ x. x also answer flags) (moments_sym a b)
endpoints_sym flags (valued a) infinite = refl
endpoints_sym flags (valued a) unknown = refl
endpoints_sym flags infinite (valued b) = refl
endpoints_sym flags infinite infinite = refl
endpoints_sym flags infinite unknown = refl
endpoints_sym flags unknown (valued b) = refl
endpoints_sym flags unknown infinite = refl
endpoints_sym flags unknown unknown = refl

sides_sym : (side : Side) (shift : ℕ) (a b : Element) → compare_sides side shift a b ≡ compare_sides side shift b a
sides_sym side shift a b =
    endpoints_sym (same_attribute side.flag a.attrs b.attrs) (endpoint_of shift side a.kids) (endpoint_of shift side b.kids)
    ∙ ap (λ flags. compare_endpoints flags (endpoint_of shift side b.kids) (endpoint_of shift side a.kids)) (attribute_sym side.flag a.attrs b.attrs)

parts_sym : (as' bs : List Attribute) → compare_parts as' bs ≡ compare_parts bs as'
parts_sym as' bs = rw (or_comm (is_null as') (is_null bs), attribute_sym (bytes "type") as' bs, attribute_sym (bytes "value") as' bs)

all-parts_sym : (a b : Nodes) → compare_all_parts a b ≡ compare_all_parts b a
unfolding compare_all_parts
all-parts_sym end end = refl
all-parts_sym end (node m bs ls more) = refl
all-parts_sym (node n as' ks rest) end = refl
all-parts_sym (node n as' ks rest) (node m bs ls more) = rw (parts_sym as' bs, all-parts_sym rest more)

codes_sym : (shift : ℕ) (a b : Element) → compare_codes shift a b ≡ compare_codes shift b a
codes_sym shift a b =
    rw (and_comm (has "code" a.attrs) (has "code" b.attrs), attribute_sym (bytes "code") a.attrs b.attrs, attribute_sym (bytes "codeSystem") a.attrs b.attrs)

money_sym : (shift : ℕ) (a b : Element) → compare_money shift a b ≡ compare_money shift b a
money_sym shift a b = rw (option_sym same_amount amount_sym (amount_of a.attrs) (amount_of b.attrs), attribute_sym (bytes "currency") a.attrs b.attrs)

identifiers_sym : (shift : ℕ) (a b : Element) → compare_identifiers shift a b ≡ compare_identifiers shift b a
identifiers_sym shift a b = rw (attribute_sym (bytes "root") a.attrs b.attrs, attribute_sym (bytes "extension") a.attrs b.attrs)

abbrev IsSymmetric : Option Comparer → Type 0
IsSymmetric none = Unit {0}
IsSymmetric (some f) = (shift : ℕ) (a b : Element) → f shift a b ≡ f shift b a

comparers_sym : (k : Kind) → IsSymmetric (comparer_of k)
unfolding comparer_of
comparers_sym TS = λ shift a b. endpoints_sym true (endpoint_valued shift a.attrs) (endpoint_valued shift b.attrs)
comparers_sym IVL_TS = λ shift a b. rw (sides_sym low shift a b, sides_sym high shift a b)
comparers_sym QSU_TS = tt
comparers_sym QSI_TS = tt
comparers_sym QSD_TS = tt
comparers_sym MO = money_sym
comparers_sym II = identifiers_sym
comparers_sym CD = codes_sym
comparers_sym EN = λ shift a b. all-parts_sym a.kids b.kids
comparers_sym DisplayName = tt
comparers_sym Part = tt

pub comparer_symmetric : (k : Kind) {f : Comparer} → comparer_of k ≡ some f → (shift : ℕ) (a b : Element) → f shift a b ≡ f shift b a
comparer_symmetric k e = subst IsSymmetric e (comparers_sym k)

-- a value and itself

option_self : {A : Type 0} (test : A → A → Bool) → ((a : A) → test a a ≡ true) → (x : Option A) → same_option test x x ≡ true
option_self test h none = refl
option_self test h (some a) = h a

attribute_self : (n : List ℕ) (attrs : List Attribute) → same_attribute n attrs attrs ≡ true
attribute_self n attrs = option_self same same_refl (lookup n attrs)

amount_self : (z : ℤ) → same_amount z z ≡ true
amount_self (pos n) = rw (le-leb n n (omega arith))
amount_self (negsuc n) = rw (le-leb n n (omega arith))

moments_self : (m : Moment) → compare_moments m m ≡ Yes
unfolding compare_moments
moments_self m = rw (eqb_refl m.precision, eqb_refl m.start)

endpoints_self : (flags : Bool) (x : Endpoint) → flags ≡ true → compare_endpoints flags x x ≡ cond (is_unknown x) Unknown Yes
endpoints_self flags (valued m) e = rw (moments_self m, e)
endpoints_self flags infinite e = refl
endpoints_self flags unknown e = refl

intervals_self : (shift : ℕ) (e : Element) → compare_intervals shift e e ≡ cond (has_sides shift e.kids) Yes Unknown
intervals_self shift e = go (endpoint_of shift low e.kids) (endpoint_of shift high e.kids) _ _ (attribute_self _ e.attrs) (attribute_self _ e.attrs)
  where
    go : (l h : Endpoint) (c d : Bool) → c ≡ true → d ≡ true
        → (compare_endpoints c l l also compare_endpoints d h h) ≡ cond (not (is_unknown l) && not (is_unknown h)) Yes Unknown
    go l h c d x y = rw (endpoints_self c l x, endpoints_self d h y) (both (is_unknown l) (is_unknown h))
      where
        both : (a b : Bool) → (cond a Unknown Yes also cond b Unknown Yes) ≡ cond (not a && not b) Yes Unknown
        both true true = refl
        both true false = refl
        both false true = refl
        both false false = refl

codes_self : (shift : ℕ) (e : Element) → compare_codes shift e e ≡ cond (has "code" e.attrs) Yes Unknown
codes_self shift e = rw (attribute_self (bytes "code") e.attrs, attribute_self (bytes "codeSystem") e.attrs) (go (has "code" e.attrs))
  where
    go : (b : Bool) → cond (b && b) Yes Unknown ≡ cond b Yes Unknown
    go true = refl
    go false = refl

all-parts_self : (parts : Nodes) → compare_all_parts parts parts ≡ cond (not (has_null_part parts)) Yes Unknown
unfolding compare_all_parts has_null_part
all-parts_self end = refl
all-parts_self (node n attrs kids rest) =
    rw (attribute_self (bytes "type") attrs, attribute_self (bytes "value") attrs, all-parts_self rest) (go (is_null attrs) (has_null_part rest))
  where
    go : (a b : Bool) → (cond (a || a) Unknown Yes also cond (not b) Yes Unknown) ≡ cond (not (a || b)) Yes Unknown
    go true true = refl
    go true false = refl
    go false true = refl
    go false false = refl

-- a TS that is not null has a value, which is a timestamp
module _ (shift : ℕ) where
  value_faults : (a : Attribute) → a.name ≡ bytes "value" → attribute_faults shift top TS a ≡ faults_of (read_timestamp shift a.value)
  unfolding attribute_faults line_of find same begins form_faults
  value_faults a e = rw e

  value_faultless : (attrs : List Attribute) (text : List ℕ) → flat_map (attribute_faults shift top TS) attrs ≡ [] → lookup (bytes "value") attrs ≡ some text
      → faults_of (read_timestamp shift text) ≡ []
  unfolding flat_map lookup
  value_faultless [] text f l = clash (cc)
  value_faultless (a ∷ attrs) text f l = let (g, h) = append-eq-nil_iff.0 f in go (same a.name (bytes "value")) refl g l (value_faultless attrs text h)
    where
      go : (b : Bool) → same a.name (bytes "value") ≡ b → attribute_faults shift top TS a ≡ [] → cond b (some a.value) (lookup (bytes "value") attrs) ≡ some text
          → (lookup (bytes "value") attrs ≡ some text → faults_of (read_timestamp shift text) ≡ []) → faults_of (read_timestamp shift text) ≡ []
      go true d g l below =
          let z : a.value ≡ text = cc in
          rw (← z, ← value_faults a (same_true a.name (bytes "value") d)) g
      go false d g l below = below l

  read_self : (o : Outcome Moment) → faults_of o ≡ [] → compare_endpoints true (endpoint_read o) (endpoint_read o) ≡ Yes
  read_self (answered m) e = rw (moments_self m)
  read_self (refused r) e = clash (cc)

  times_self : (attrs : List Attribute) (kids : Nodes) (within : Kind → List Refusal) → element_faults shift top (some TS) attrs kids within ≡ [] → is_null attrs ≡ false
      → compare_endpoints true (endpoint_valued shift attrs) (endpoint_valued shift attrs) ≡ Yes
  unfolding line_of
  times_self attrs kids within f n =
      go (lookup (bytes "value") attrs) refl (not-broken (has "value" attrs) (is_null attrs) n (element_faultless shift top TS attrs kids within f).2)
    where
      not-broken : (a b : Bool) → b ≡ false → not (exactly_one a b) ≡ false → a ≡ true
      not-broken true b n e = refl
      not-broken false true n e = clash (cc)
      not-broken false false n e = clash (cc)

      go : (o : Option (List ℕ)) → lookup (bytes "value") attrs ≡ o → is_some o ≡ true
          → compare_endpoints true (if_some o (λ text. endpoint_read (read_timestamp shift text)) unknown) (if_some o (λ text. endpoint_read (read_timestamp shift text)) unknown) ≡ Yes
      go none l s = clash (cc)
      go (some text) l s = read_self (read_timestamp shift text) (value_faultless attrs text (element_faultless shift top TS attrs kids within f).0 l)

-- of an element without fault that is of a type and not null: yes exactly if it is complete, else unknown
abbrev KnowsItself : Kind → Option Comparer → Type 0
KnowsItself k none = Unit {0}
KnowsItself k (some f) = (shift : ℕ) (e : Element) (within : Kind → List Refusal) → element_faults shift top (some k) e.attrs e.kids within ≡ []
    → lookup (bytes "xsi:type") e.attrs ≡ some (name_of k) → is_null e.attrs ≡ false → f shift e e ≡ cond (is_complete shift e) Yes Unknown

comparers_self : (k : Kind) → KnowsItself k (comparer_of k)
unfolding comparer_of same
comparers_self TS = λ shift e within f t n. rw (t, n) (times_self shift e.attrs e.kids within f n)
comparers_self IVL_TS = λ shift e within f t n. rw (t, n, and-true (has_sides shift e.kids && true), and-true (has_sides shift e.kids)) (intervals_self shift e)
comparers_self QSU_TS = tt
comparers_self QSI_TS = tt
comparers_self QSD_TS = tt
comparers_self MO = λ shift e within f t n. rw (t, n, option_self same_amount amount_self (amount_of e.attrs), attribute_self (bytes "currency") e.attrs)
comparers_self II = λ shift e within f t n. rw (t, n, attribute_self (bytes "root") e.attrs, attribute_self (bytes "extension") e.attrs)
comparers_self CD = λ shift e within f t n. rw (t, n, and-true (has "code" e.attrs)) (codes_self shift e)
comparers_self EN = λ shift e within f t n. rw (t, n) (all-parts_self e.kids)
comparers_self DisplayName = tt
comparers_self Part = tt

pub comparer_itself : (k : Kind) {g : Comparer} → comparer_of k ≡ some g
    → (shift : ℕ) (e : Element) (within : Kind → List Refusal) → element_faults shift top (some k) e.attrs e.kids within ≡ []
    → lookup (bytes "xsi:type") e.attrs ≡ some (name_of k) → is_null e.attrs ≡ false → g shift e e ≡ cond (is_complete shift e) Yes Unknown
comparer_itself k e = subst (KnowsItself k) e (comparers_self k)

-- yes is said of a complete value alone

also_yes : (x y : Answer) → (x also y) ≡ Yes → (x ≡ Yes) × (y ≡ Yes)
also_yes Yes y e = (refl, e)
also_yes No y e = clash (cc)
also_yes Unknown Yes e = clash (cc)
also_yes Unknown No e = clash (cc)
also_yes Unknown Unknown e = clash (cc)

endpoints_yes : (flags : Bool) (x y : Endpoint) → compare_endpoints flags x y ≡ Yes → is_unknown x ≡ false
endpoints_yes flags (valued m) y e = refl
endpoints_yes flags infinite y e = refl
endpoints_yes flags unknown y e = clash (cc)

intervals_yes : (shift : ℕ) (a b : Element) → compare_intervals shift a b ≡ Yes → has_sides shift a.kids ≡ true
intervals_yes shift a b e =
    let (l, h) = also_yes (compare_sides low shift a b) (compare_sides high shift a b) e in
    rw (
      endpoints_yes _ (endpoint_of shift low a.kids) (endpoint_of shift low b.kids) l,
      endpoints_yes _ (endpoint_of shift high a.kids) (endpoint_of shift high b.kids) h,
    )

codes_yes : (shift : ℕ) (a b : Element) → compare_codes shift a b ≡ Yes → has "code" a.attrs ≡ true
codes_yes shift a b e = go (has "code" a.attrs) (has "code" b.attrs) _ e
  where
    go : (c d : Bool) (x : Answer) → cond (c && d) x Unknown ≡ Yes → c ≡ true
    go true d x e = refl
    go false d x e = clash (cc)

all-parts_yes : (a b : Nodes) → compare_all_parts a b ≡ Yes → has_null_part a ≡ false
unfolding compare_all_parts has_null_part
all-parts_yes end b e = refl
all-parts_yes (node n as' ks rest) end e = clash (cc)
all-parts_yes (node n as' ks rest) (node m bs ls more) e =
    let (f, g) = also_yes (compare_parts as' bs) (compare_all_parts rest more) e in
    rw (go (is_null as') (is_null bs) _ f, all-parts_yes rest more g)
  where
    go : (c d : Bool) (x : Answer) → cond (c || d) Unknown x ≡ Yes → c ≡ false
    go true d x e = clash (cc)
    go false d x e = refl

abbrev SaysYes : Kind → Option Comparer → Type 0
SaysYes k none = Unit {0}
SaysYes k (some f) = (shift : ℕ) (a b : Element) → lookup (bytes "xsi:type") a.attrs ≡ some (name_of k) → is_null a.attrs ≡ false → f shift a b ≡ Yes → is_complete shift a ≡ true

comparers_yes : (k : Kind) → SaysYes k (comparer_of k)
unfolding comparer_of same
comparers_yes TS = λ shift a b t n e. rw (t, n)
comparers_yes IVL_TS = λ shift a b t n e. rw (t, n, intervals_yes shift a b e)
comparers_yes QSU_TS = tt
comparers_yes QSI_TS = tt
comparers_yes QSD_TS = tt
comparers_yes MO = λ shift a b t n e. rw (t, n)
comparers_yes II = λ shift a b t n e. rw (t, n)
comparers_yes CD = λ shift a b t n e. rw (t, n, codes_yes shift a b e)
comparers_yes EN = λ shift a b t n e. rw (t, n, all-parts_yes a.kids b.kids e)
comparers_yes DisplayName = tt
comparers_yes Part = tt

pub comparer_yes : (k : Kind) {f : Comparer} → comparer_of k ≡ some f
    → (shift : ℕ) (a b : Element) → lookup (bytes "xsi:type") a.attrs ≡ some (name_of k) → is_null a.attrs ≡ false → f shift a b ≡ Yes → is_complete shift a ≡ true
comparer_yes k e = subst (SaysYes k) e (comparers_yes k)
