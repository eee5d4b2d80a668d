-- The refusals that a judged element can give are those from TYPE to RULE on the ladder. So checking a record gives those from OFFSET to RULE alone, and what is
-- found before an element is judged comes first.
use Prim.Native.Nat.{ℕ, ◌≤◌}
use mathlib.Core.Path.{◌≡◌, refl}
use mathlib.Core.Bool.{Bool, true, false, not, ◌&&◌, ◌||◌, cond}
use mathlib.Core.List.{List, [], ◌∷◌, ◌++◌, flat_map, Memᴰ}
use mathlib.Core.Option.{Option, none, some}
use borrow.Author.Tests.{leb-true}
use lib.Dec.{leb, ltb}
use lib.IntN.{ℤ}
use Rattle.rules.specs.Basics.{is_some, if_some, find, exists, bytes, is_empty, same, begins}
use Rattle.rules.specs.Refusal.{Refusal, OFFSET, TOO_LONG, NOT_UTF_8, MARKUP, TYPE, SHAPE, VALUE, DATE, CLOCK, ZONE, RULE, rank_in, rank, first_of, Outcome, answered, refused, faults_in, faults_of, ◌unless◌, ◌when◌}
use Rattle.rules.specs.Markup.{Attribute, Nodes, end, node, Element, document}
use Rattle.rules.specs.Timestamp.{Written, timestamp, is_date, is_clock, is_zone, written_faults, moment_of, read_timestamp}
use Rattle.rules.specs.Parsers.{whole}
use Rattle.rules.specs.Forms.{Form, any_text, non_empty, flavor, flag, amount, currency, root, part_type, qualifiers, is_flavor, is_flag, amount_text, is_currency, is_root, is_part_type, is_qualifiers, form_faults}
use Rattle.rules.specs.Invariants.{is_null}
use Rattle.rules.specs.Types.{Kind, all_types, type_among, Column, Child, line_of}
use Rattle.rules.specs.Judge.{Standing, top, is_top, type_columns, null_columns, attribute_faults, lacks, breaks_null, element_faults, kind_of, standing_of, next_child, child_faults, top_faults}
use Rattle.rules.specs.Check.{is_offset, shift_by, is_too_long, element_of, record_faults, check}
use Rattle.rules.specs.Utf8.{is_utf8}
use Rattle.rules.proofs.Tests.{both_true}
use Rattle.rules.proofs.Children.{faults_as}
use Rattle.rules.proofs.Precedence.{first-is, unless_refused, check-refused}

-- all pass a test
pub data Pass (p : Refusal → Bool) : List Refusal → Type 0 where
  none_left : Pass p []
  one_more : {r : Refusal} {rs : List Refusal} → p r ≡ true → Pass p rs → Pass p (r ∷ rs)

module _ (p : Refusal → Bool) where
  pass-one : (r : Refusal) → p r ≡ true → Pass p (r ∷ [])
  pass-one r h = one_more h none_left

  pub pass-append : {a b : List Refusal} → Pass p a → Pass p b → Pass p (a ++ b)
  pass-append none_left k = k
  pass-append (one_more h l) k = one_more h (pass-append l k)

  pub pass_when : (r : Refusal) (b : Bool) → p r ≡ true → Pass p (r when b)
  pass_when r true h = pass-one r h
  pass_when r false h = none_left

  pub pass-member : {r : Refusal} {rs : List Refusal} → Pass p rs → Memᴰ r rs → p r ≡ true
  pass-member {r} (one_more {r = x} h l) (Memᴰ.head e) = rw e h
  pass-member (one_more h l) (Memᴰ.tail m) = pass-member l m
  pass-member {r = r} none_left m = elim m [ ]

  pub first_passes : {r : Refusal} {rs : List Refusal} → Pass p rs → first_of rs ≡ some r → p r ≡ true
  first_passes {r} {rs} h e = pass-member h ((first-is rs r).0 e).0

  pass_flat_map : {A : Type 0} (f : A → List Refusal) → ((a : A) → Pass p (f a)) → (l : List A) → Pass p (flat_map f l)
  unfolding flat_map
  pass_flat_map f h [] = none_left
  pass_flat_map f h (a ∷ l) = pass-append (h a) (pass_flat_map f h l)

  pass_faults : {A : Type 0} (o : Outcome A) → ((r : Refusal) → o ≡ refused r → p r ≡ true) → Pass p (faults_of o)
  pass_faults (answered a) h = none_left
  pass_faults (refused r) h = pass-one r (h r refl)

-- those of a timestamp
module _ (test : Refusal → Bool) (value : test VALUE ≡ true) (date : test DATE ≡ true) (clock : test CLOCK ≡ true) (zone : test ZONE ≡ true) where
  written_passes : (w : Written) → Pass test (written_faults w)
  unfolding written_faults
  written_passes w =
      pass-append test (pass-append test (pass_when test DATE (not (is_date w)) date) (pass_when test CLOCK (not (is_clock w)) clock)) (pass_when test ZONE (not (is_zone w.zone)) zone)

  pub read_passes : (shift : ℕ) (text : List ℕ) → Pass test (faults_of (read_timestamp shift text))
  unfolding read_timestamp
  read_passes shift text = go (whole timestamp text)
    where
      go : (o : Option Written) → Pass test (faults_of (if_some o (λ w. answered (moment_of shift w) unless written_faults w) (refused VALUE)))
      go none = pass-one test VALUE value
      go (some w) = pass_faults test (answered (moment_of shift w) unless written_faults w)
          (λ r e. first_passes test (written_passes w) ((unless_refused (answered (moment_of shift w)) (written_faults w) r).0 e))

-- those of attributes
module _ (test : Refusal → Bool) (shape : test SHAPE ≡ true) (value : test VALUE ≡ true) (date : test DATE ≡ true) (clock : test CLOCK ≡ true) (zone : test ZONE ≡ true) where
  value_when : (b : Bool) → Pass test (VALUE when b)
  value_when b = pass_when test VALUE b value

  form_passes : (shift : ℕ) (f : Form) (text : List ℕ) → Pass test (form_faults shift f text)
  unfolding form_faults
  form_passes shift any_text text = none_left
  form_passes shift non_empty text = value_when (is_empty text)
  form_passes shift flavor text = value_when (not (is_flavor text))
  form_passes shift Form.timestamp text = read_passes test value date clock zone shift text
  form_passes shift flag text = value_when (not (is_flag text))
  form_passes shift amount text = value_when (not (is_some (whole amount_text text)))
  form_passes shift currency text = value_when (not (is_currency text))
  form_passes shift root text = value_when (not (is_root text))
  form_passes shift part_type text = value_when (not (is_part_type text))
  form_passes shift qualifiers text = value_when (not (is_qualifiers text))

  attribute_passes : (shift : ℕ) (p : Standing) (k : Kind) (a : Attribute) → Pass test (attribute_faults shift p k a)
  unfolding attribute_faults
  attribute_passes shift p k a =
      go (is_top p && begins (bytes "xmlns") a.name) (find (λ c. same c.name a.name) (type_columns p ++ null_columns k ++ (line_of k).columns))
    where
      go : (b : Bool) (o : Option Column) → Pass test (cond b [] (if_some o (λ c. form_faults shift c.form a.value) (SHAPE ∷ [])))
      go true o = none_left
      go false none = pass-one test SHAPE shape
      go false (some c) = form_passes shift c.form a.value

  pub attributes-pass : (shift : ℕ) (p : Standing) (k : Kind) (attrs : List Attribute) → Pass test (flat_map (attribute_faults shift p k) attrs)
  attributes-pass shift p k attrs = pass_flat_map test (attribute_faults shift p k) (attribute_passes shift p k) attrs

-- those of an element
module _ (test : Refusal → Bool) (type : test TYPE ≡ true) (shape : test SHAPE ≡ true) (value : test VALUE ≡ true) (date : test DATE ≡ true) (clock : test CLOCK ≡ true)
    (zone : test ZONE ≡ true) (rule : test RULE ≡ true) where
  element_passes : (shift : ℕ) (p : Standing) (o : Option Kind) (attrs : List Attribute) (kids : Nodes) (within : Kind → List Refusal)
      → ((k : Kind) → Pass test (within k)) → Pass test (element_faults shift p o attrs kids within)
  unfolding element_faults
  element_passes shift p none attrs kids within h = pass-one test TYPE type
  element_passes shift p (some k) attrs kids within h =
      pass-append test
      (pass-append test
      (pass-append test (attributes-pass test shape value date clock zone shift p k attrs) (pass_when test SHAPE (exists (lacks attrs) (line_of k).columns) shape))
      (h k))
      (pass_when test RULE ((line_of k).invariant shift attrs kids || breaks_null k attrs kids) rule)

  children-pass : (shift : ℕ) (k : Kind) (null : Bool) (stage : ℕ) (ns : Nodes) → Pass test (child_faults shift k null stage ns)
  unfolding child_faults
  children-pass shift k null stage end = pass_when test SHAPE (not null && ltb stage (line_of k).enough) shape
  children-pass shift k null stage (node n attrs kids rest) =
      pass-append test (go (next_child k stage n) (λ j. children-pass shift j (is_null attrs) 0 kids)) (children-pass shift k null (if_some (next_child k stage n) (λ c. c.to) stage) rest)
    where
      go : (o : Option Child) → ((j : Kind) → Pass test (child_faults shift j (is_null attrs) 0 kids))
          → Pass test (if_some o (λ c. faults_as shift attrs kids c.kind) (SHAPE ∷ []))
      go none h = pass-one test SHAPE shape
      go (some c) h = element_passes shift (standing_of c.kind) (kind_of c.kind attrs) attrs kids (λ j. child_faults shift j (is_null attrs) 0 kids) h

  -- the faults of a record's element
  pub top_passes : (shift : ℕ) (e : Element) → Pass test (top_faults shift e)
  top_passes shift e =
      element_passes shift top (type_among all_types e.attrs) e.attrs e.kids (λ k. child_faults shift k (is_null e.attrs) 0 e.kids)
      (λ k. children-pass shift k (is_null e.attrs) 0 e.kids)

  -- those of a record, if there is one element
  pub element-or_markup : (shift : ℕ) (input : List ℕ) → test MARKUP ≡ true → Pass test (faults_in (top_faults shift) (element_of input))
  element-or_markup shift input h = go (document input)
    where
      go : (o : Option Element) → Pass test (faults_in (top_faults shift) (if_some o answered (refused MARKUP)))
      go none = pass-one test MARKUP h
      go (some e) = top_passes shift e

-- those that stand from OFFSET to RULE on the ladder
unfoldable pub is_of_record : Refusal → Bool
is_of_record r = leb (rank OFFSET) (rank r) && leb (rank r) (rank RULE)

pub of_record : (r : Refusal) → is_of_record r ≡ true → (rank OFFSET ≤ rank r) × (rank r ≤ rank RULE)
unfolding is_of_record
of_record r h =
    let (f, g) = both_true (leb (rank OFFSET) (rank r)) (leb (rank r) (rank RULE)) h in
    (leb-true (rank OFFSET) (rank r) f, leb-true (rank r) (rank RULE) g)

module _ (offset : ℤ) (input : List ℕ) where
  record_passes : Pass is_of_record (record_faults offset input)
  unfolding record_faults is_of_record rank_in
  record_passes =
      pass-append is_of_record
      (pass-append is_of_record
      (pass-append is_of_record (pass_when is_of_record OFFSET (not (is_offset offset)) refl) (pass_when is_of_record TOO_LONG (is_too_long input) refl))
      (pass_when is_of_record NOT_UTF_8 (not (is_utf8 input)) refl))
      (element-or_markup is_of_record refl refl refl refl refl refl refl (shift_by offset) input refl)

  -- checking gives no others
  pub check_refusals : {r : Refusal} → check offset input ≡ refused r → is_of_record r ≡ true
  check_refusals {r} e = first_passes is_of_record record_passes ((check-refused offset input r).0 e)

  -- nor are there others where the type is looked at besides
  pub type_passes : (allowed : Element → Bool) → Pass is_of_record (faults_in (λ e. TYPE when not (allowed e)) (element_of input))
  unfolding is_of_record rank_in
  type_passes allowed = go (document input)
    where
      go : (d : Option Element) → Pass is_of_record (faults_in (λ e. TYPE when not (allowed e)) (if_some d answered (refused MARKUP)))
      go none = pass-one is_of_record MARKUP refl
      go (some e) = pass_when is_of_record TYPE (not (allowed e)) refl
