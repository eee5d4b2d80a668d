-- Comparing two records keeps its promise.
use Prim.Native.Nat.{ℕ}
use mathlib.Core.Path.{◌≡◌, refl, sym, ◌∙◌, ap}
use mathlib.Core.Bool.{Bool, true, false, ◌||◌, cond, or_comm}
use mathlib.Core.List.{List, []}
use mathlib.Core.Option.{Option, none, some}
use native.Mathlib.Omega.{arith}
use lib.IntN.{ℤ}
use Rattle.rules.specs.Basics.{is_some, if_some, find, every, same}
use Rattle.rules.specs.Refusal.{Refusal, TYPE}
use Rattle.rules.specs.Markup.{Attribute, Element}
use Rattle.rules.specs.Invariants.{is_null}
use Rattle.rules.specs.Types.{Kind, TS, IVL_TS, QSU_TS, QSI_TS, QSD_TS, MO, II, CD, EN, DisplayName, Part, all_types, has_type, type_among}
use Rattle.rules.specs.Judge.{top_faults}
use Rattle.rules.specs.Check.{shift_by}
use Rattle.rules.specs.Comparison.{Answer, Yes, No, Unknown, Comparer, comparer_of, comparer_for, or_unknown}
use Rattle.rules.specs.Services.{Compared, compared, refused_first, refused_second, answer_number, compared_number, compare_answer}
use Rattle.rules.specs.ComparisonPromise.{compared_types, compared_type, is_complete, Names, Says, IsOf, ComparisonPromise}
use Rattle.rules.proofs.Tests.{clash, found}
use Rattle.rules.proofs.ComparedRecords.{says, comparison_of, each_given}
use Rattle.rules.proofs.Members.{type-is}
use Rattle.rules.proofs.ListingCases.{check_faultless}
use Rattle.rules.proofs.ListingPromise.{small}
use Rattle.rules.proofs.Comparing.{comparer_symmetric, comparer_itself, comparer_yes}

-- an element has at most one type that is compared, and no other
one_type : (attrs : List Attribute) (k : Kind) → has_type attrs k ≡ true → is_some (comparer_of k) ≡ true
    → (type_among all_types attrs ≡ some k) × (type_among compared_types attrs ≡ some k)
unfolding comparer_of find same
one_type attrs TS h c = (rw (type-is attrs TS h), rw (type-is attrs TS h))
one_type attrs IVL_TS h c = (rw (type-is attrs IVL_TS h), rw (type-is attrs IVL_TS h))
one_type attrs QSU_TS h c = clash (cc)
one_type attrs QSI_TS h c = clash (cc)
one_type attrs QSD_TS h c = clash (cc)
one_type attrs MO h c = (rw (type-is attrs MO h), rw (type-is attrs MO h))
one_type attrs II h c = (rw (type-is attrs II h), rw (type-is attrs II h))
one_type attrs CD h c = (rw (type-is attrs CD h), rw (type-is attrs CD h))
one_type attrs EN h c = (rw (type-is attrs EN h), rw (type-is attrs EN h))
one_type attrs DisplayName h c = clash (cc)
one_type attrs Part h c = clash (cc)

-- what it is to be of a type that is compared
record OfType (k : Kind) (e : Element) : Type 0 where
  named : has_type e.attrs k ≡ true
  among_all : type_among all_types e.attrs ≡ some k
  comparer : is_some (comparer_of k) ≡ true

of_type : (k : Kind) (e : Element) → compared_type e ≡ some k → OfType k e
unfolding every comparer_of
of_type k e t =
    let (h, c) = found (has_type e.attrs) (λ j. is_some (comparer_of j)) compared_types k refl t in
    record { named = h; among_all = (one_type e.attrs k h c).0; comparer = c }

-- two elements are of one type that is compared, and have its comparer; or they are not, and have none
pub data Pair (a b : Element) : Option Comparer → Type 0 where
  alike : (k : Kind) (f : Comparer) → compared_type a ≡ some k → compared_type b ≡ some k → comparer_of k ≡ some f → Pair a b (some f)
  unlike : ((k : Kind) → compared_type a ≡ some k → compared_type b ≡ some k → ⊥) → Pair a b none

pub pair : (a b : Element) → Pair a b (comparer_for a b)
unfolding comparer_for every
pair a b = by_first (type_among all_types a.attrs) refl
  where
    by_comparer : (k : Kind) (o : Option Comparer) → type_among all_types a.attrs ≡ some k → has_type b.attrs k ≡ true → comparer_of k ≡ o → Pair a b o
    by_comparer k none s h c = unlike λ j t u. let o = of_type j a t in clash (cc (o.among_all, o.comparer))
    by_comparer k (some f) s h c =
        let g = (found (has_type a.attrs) (λ j. true) all_types k refl s).0 in
        alike k f (one_type a.attrs k g (rw c)).1 (one_type b.attrs k h (rw c)).1 c

    by_second : (k : Kind) (h : Bool) → type_among all_types a.attrs ≡ some k → has_type b.attrs k ≡ h → Pair a b (cond h (comparer_of k) none)
    by_second k true s h = by_comparer k (comparer_of k) s h refl
    by_second k false s h = unlike λ j t u. let o = of_type j a t in let p = of_type j b u in clash (cc (o.among_all, p.named))

    by_first : (x : Option Kind) → type_among all_types a.attrs ≡ x → Pair a b (if_some x (λ k. cond (has_type b.attrs k) (comparer_of k) none) none)
    by_first none s = unlike λ k t u. clash (cc (of_type k a t).among_all)
    by_first (some k) s = by_second k (has_type b.attrs k) s refl

comparer_for_sym : (a b : Element) → comparer_for a b ≡ comparer_for b a
comparer_for_sym a b = go (pair a b) (pair b a)
  where
    go : {x y : Option Comparer} → Pair a b x → Pair b a y → x ≡ y
    go (alike k f t u c) (alike j g v w d) = let z : k ≡ j = cc in cc
    go (alike k f t u c) (unlike h) = absurd (h k u t)
    go (unlike h) (alike k f t u c) = absurd (h k u t)
    go (unlike h) (unlike i) = refl

abbrev outcome : (shift : ℕ) → Element → Element → Option Comparer → Compared
outcome shift a b o = if_some o (λ f. compared (or_unknown f shift a b)) (refused_second TYPE)

module _ (shift : ℕ) where
  outcome_sym : (a b : Element) → outcome shift a b (comparer_for a b) ≡ outcome shift b a (comparer_for b a)
  outcome_sym a b = go (pair a b) ∙ ap (outcome shift b a) (comparer_for_sym a b)
    where
      go : {x : Option Comparer} → Pair a b x → outcome shift a b x ≡ outcome shift b a x
      go (alike k f t u c) = rw (or_comm (is_null a.attrs) (is_null b.attrs), comparer_symmetric k c shift a b)
      go (unlike h) = refl

  outcome_type : (a b : Element) → ((k : Kind) → compared_type a ≡ some k → compared_type b ≡ some k → ⊥) → outcome shift a b (comparer_for a b) ≡ refused_second TYPE
  outcome_type a b h = go (pair a b)
    where
      go : {x : Option Comparer} → Pair a b x → outcome shift a b x ≡ refused_second TYPE
      go (alike k f t u c) = absurd (h k t u)
      go (unlike i) = refl

  outcome_answer : (k : Kind) (a b : Element) → compared_type a ≡ some k → compared_type b ≡ some k
      → (x : Answer) × (outcome shift a b (comparer_for a b) ≡ compared x) × ((is_null a.attrs || is_null b.attrs) ≡ true → x ≡ Unknown)
  outcome_answer k a b t u = go (pair a b)
    where
      go : {o : Option Comparer} → Pair a b o → (x : Answer) × (outcome shift a b o ≡ compared x) × ((is_null a.attrs || is_null b.attrs) ≡ true → x ≡ Unknown)
      go (alike j f v w c) = (or_unknown f shift a b, refl, λ n. rw n)
      go (unlike h) = absurd (h k t u)

  outcome_itself : (k : Kind) (e : Element) → compared_type e ≡ some k → top_faults shift e ≡ []
      → outcome shift e e (comparer_for e e) ≡ compared (cond (is_complete shift e) Yes Unknown)
  outcome_itself k e t faultless = go (pair e e)
    where
      known : (j : Kind) {f : Comparer} → compared_type e ≡ some j → comparer_of j ≡ some f → (b : Bool) → is_null e.attrs ≡ b
          → or_unknown f shift e e ≡ cond (is_complete shift e) Yes Unknown
      known j v c true n = rw n
      known j {f} v c false n =
          let o = of_type j e v in
          ap (λ b. cond (b || b) Unknown (f shift e e)) n ∙ comparer_itself j c shift e _ (rw o.among_all at faultless) (type-is e.attrs j o.named) n

      go : {o : Option Comparer} → Pair e e o → outcome shift e e o ≡ compared (cond (is_complete shift e) Yes Unknown)
      go (alike j f v w c) = ap compared (known j v c _ refl)
      go (unlike h) = absurd (h k t t)

  outcome_yes : (a b : Element) → outcome shift a b (comparer_for a b) ≡ compared Yes → is_complete shift a ≡ true
  outcome_yes a b e = go (pair a b) e
    where
      not_null : (c d : Bool) (x : Answer) → cond (c || d) Unknown x ≡ Yes → (c ≡ false) × (x ≡ Yes)
      not_null true d x e = clash (cc)
      not_null false true x e = clash (cc)
      not_null false false x e = (refl, e)

      go : {o : Option Comparer} → Pair a b o → outcome shift a b o ≡ compared Yes → is_complete shift a ≡ true
      go (alike k f t u c) e =
          let (n, y) = not_null (is_null a.attrs) (is_null b.attrs) (f shift a b) (cc) in
          comparer_yes k c shift a b (type-is a.attrs k (of_type k a t).named) n y
      go (unlike h) e = clash (cc)

-- the bits of an answer
pub names-first : (r : Refusal) → Names 1 r (compared_number (refused_first r))
names-first r = let h = small r in record { number_given = omega arith; record_named = omega arith; no_answer = omega arith }

pub names-second : (r : Refusal) → Names 2 r (compared_number (refused_second r))
names-second r = let h = small r in record { number_given = omega arith; record_named = omega arith; no_answer = omega arith }

says-one : (x y : Answer) {n : ℕ} → Says x n → Says y n → x ≡ y
says-one x y h i = go x y (sym h.answer_given ∙ i.answer_given)
  where
    go : (x y : Answer) → answer_number x ≡ answer_number y → x ≡ y
    go Yes Yes e = refl
    go Yes No e = clash (omega arith)
    go Yes Unknown e = clash (omega arith)
    go No Yes e = clash (omega arith)
    go No No e = refl
    go No Unknown e = clash (omega arith)
    go Unknown Yes e = clash (omega arith)
    go Unknown No e = clash (omega arith)
    go Unknown Unknown e = refl

module _ (offset : ℤ) where
  abbrev shift : ℕ
  shift = shift_by offset

  -- what an answer given says
  yes_outcome : (k : Kind) (a b : List ℕ) (e f : Element) → IsOf offset k a e → IsOf offset k b f → Says Yes (compare_answer offset a b) → outcome shift e f (comparer_for e f) ≡ compared Yes
  yes_outcome k a b e f h i y =
      let (x, d, n) = outcome_answer shift k e f h.type i.type in
      let s : Says x (compare_answer offset a b) = rw (comparison_of offset a b h.accepted i.accepted, d) (says x) in
      d ∙ ap compared (says-one x Yes s y)

  pub comparison_promise : ComparisonPromise offset (compare_answer offset)
  comparison_promise = record {
    first_refused = λ a b r e. rw (comparison_of offset a b e refl) (names-first r);
    second_refused = λ a b e r h i. rw (comparison_of offset a b h i) (names-second r);
    type_refused = λ a b e f h i u. rw (comparison_of offset a b h i, outcome_type shift e f (λ k t v. u k (record { accepted = h; type = t }) (record { accepted = i; type = v }))) (names-second TYPE);
    answer = λ k a b e f h i. let (x, d, n) = outcome_answer shift k e f h.type i.type in
        (x, rw (comparison_of offset a b h.accepted i.accepted, d) (says x));
    null_unknown = λ k a b e f h i n. let (x, d, u) = outcome_answer shift k e f h.type i.type in
        rw (comparison_of offset a b h.accepted i.accepted, d, u n) (says Unknown);
    symmetric = λ a b e f h i. comparison_of offset a b h i ∙ ap compared_number (outcome_sym shift e f) ∙ sym (comparison_of offset b a i h);
    itself = λ k a e h. rw (comparison_of offset a a h.accepted h.accepted, outcome_itself shift k e h.type (check_faultless offset a h.accepted)) (says _);
    yes_complete = λ k a b e f h i y. let z = yes_outcome k a b e f h i y in
        (outcome_yes shift e f z, outcome_yes shift f e (sym (outcome_sym shift e f) ∙ z));
    each_given = each_given offset;
  }
