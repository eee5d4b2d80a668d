-- A document checked by its root's tag, and any bytes as a record.
use Prim.Native.Nat.{ℕ, ◌≤◌, ◌<◌}
use mathlib.Core.Path.{◌≡◌, sym, ◌∙◌, ap}
use mathlib.Core.Bool.{true, false}
use mathlib.Core.List.{List}
use mathlib.Core.Option.{none, some}
use native.Mathlib.Omega.{arith}
use borrow.Author.Tests.{lt-ltb}
use lib.ListN.{length, get_or}
use Rattle.std.specs.Prelude.{Option as StdOption, Some, None, Result}
use Rattle.rules.specs.Basics.{bytes, is_some}
use Rattle.rules.specs.Refusal.{first_of}
use Rattle.rules.specs.Markup.{Attribute, Element, lookup, document}
use Rattle.rules.specs.Types.{all_types, type_among}
use Rattle.rules.specs.Judge.{top, element_faults}
use Rattle.rules.specs.Utf8.{is_utf8}
use Rattle.rules.proofs.Tests.{clash}
use Rattle.refusal.specs.Meaning.{fault_of}
use Rattle.refusal.specs.declared.Refusal.{Refusal}
use Rattle.refusal.specs.declared.Refusal.TheVariants.{«Type», TooLong, NotUtf8, Markup}
use Rattle.element.specs.Tags.{ElementTo, Place, TagOf, TagIn}
use Rattle.element.specs.declared.tag.Tag.{Tag}
use Rattle.element.proofs.Placing.{no_places, none_there}
use Rattle.datatype.specs.Meaning.{kind_meant, type_meant}
use Rattle.datatype.specs.declared.kind.Kind.{Kind}
use Rattle.judge.specs.Checks.{RefusedAs, DocumentAs, CheckedAs}
use Rattle.judge.specs.Faults.{judged}
use Rattle.judge.specs.declared.Checked.{Checked}
use Rattle.judge.proofs.Inputs.{input_long, input_not_utf8, input_no_document, input_document}

-- a tag of nothing
pub no_tag : (s : List ℕ) → TagIn s (record { places = no_places; others = 0; namespaces = 0; name = 0; past = 0; end = 0; full = false })
no_tag s = record { placed = λ k. rw (none_there k) (omega arith); name = omega arith; past = omega arith; end = omega arith }

module _ {s : List ℕ} {at : ℕ} (shift : ℕ) (t : Tag) (root : (v : Element) → document s ≡ some v → (after : List ℕ) × ElementTo s at 8 v after)
    (tag : (depth : ℕ) (v : Element) (after : List ℕ) → ElementTo s at depth v after → TagOf s depth v after t)
    (n : StdOption Kind) (named : (l : List Attribute) → Place s (lookup (bytes "xsi:type") l) (get_or t.places 2 0) → type_meant n ≡ type_among all_types l) where
  rooted : (v : Element) → document s ≡ some v → (after : List ℕ) × TagOf s 8 v after t
  rooted v d = let (after, x) = root v d in (after, tag 8 v after x)

  typed : (v : Element) → document s ≡ some v → type_meant n ≡ type_among all_types v.attrs
  typed v d = named v.attrs ((rooted v d).1.tells.placed 2 (omega arith))

  -- the document has no type, or one
  pub no_type : n ≡ None → (r : Checked) → RefusedAs «Type» r → DocumentAs s shift r
  unfolding first_of element_faults
  no_type z r x = record {
    within = x.within s;
    fault = λ v d. rw (x.fault, sym (typed v d), z);
    held = λ v k d e. let w : none ≡ some k = sym (ap type_meant z) ∙ typed v d ∙ e in clash (cc);
  }

  pub some-type : (k : Kind) → n ≡ Some k → TagIn s t → (q : Result (Unit {0}) Refusal) → ((v : Element) (after : List ℕ) → TagOf s 8 v after t → fault_of q ≡ first_of (judged shift top (some (kind_meant k)) v))
      → DocumentAs s shift (record { fault = q; «record» = record { kind = k; tag = t } })
  some-type k z h q first = record {
    within = h;
    fault = λ v d. let (after, x) = rooted v d in rw (← typed v d, z) (first v after x);
    held = λ v i d e. let (after, x) = rooted v d in record { after = after; tag = x; kind = sym (typed v d) ∙ ap type_meant z };
  }

-- any bytes
module _ (shift : ℕ) (s : List ℕ) (r : Checked) where
  pub too_long : 16_384 < length s → RefusedAs TooLong r → CheckedAs s shift r
  too_long h x = record { within = x.within s; fault = x.fault ∙ input_long shift s h; held = λ v k e. clash (cc (e, lt-ltb 16_384 (length s) h)) }

  module _ (short : length s ≤ 16_384) where
    pub not_utf8 : is_utf8 s ≡ false → RefusedAs NotUtf8 r → CheckedAs s shift r
    not_utf8 h x = record { within = x.within s; fault = x.fault ∙ input_not_utf8 shift s short h; held = λ v k e f. clash (cc (f, h)) }

    module _ (whole : is_utf8 s ≡ true) where
      pub no_document : is_some (document s) ≡ false → RefusedAs Markup r → CheckedAs s shift r
      no_document h x = record { within = x.within s; fault = x.fault ∙ input_no_document shift s short whole h; held = λ v k e f d. clash (cc (ap is_some d, h)) }

      pub a_document : is_some (document s) ≡ true → DocumentAs s shift r → CheckedAs s shift r
      a_document h x = record { within = x.within; fault = input_document shift s short whole h x.fault; held = λ v k e f. x.held v k }
