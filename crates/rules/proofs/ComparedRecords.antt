-- Records that are given each of yes, no and unknown, in every type that is compared: 12.5 and 12.50 are one amount, a name's parts go in order, and
-- the flags of a side are compared only where both are valued.
use Prim.Native.Nat.{ℕ}
use Prim.Native.String.{String}
use mathlib.Core.Path.{◌≡◌, refl}
use mathlib.Core.Bool.{true, false}
use mathlib.Core.List.{List, [], ◌∷◌, flat_map, Memᴰ}
use mathlib.Core.Option.{some}
use lib.IntN.{ℤ}
use Rattle.rules.specs.Basics.{if_some, find, exists, bytes, same, begins}
use Rattle.rules.specs.Refusal.{Outcome, answered}
use Rattle.rules.specs.Markup.{Attribute, end, node, Element, lookup, document}
use Rattle.rules.specs.Forms.{is_flavor, is_flag, form_faults}
use Rattle.rules.specs.Invariants.{child_named, endpoint_of}
use Rattle.rules.specs.Types.{Kind, TS, IVL_TS, MO, II, CD, EN, name_of, line_of}
use Rattle.rules.specs.Judge.{attribute_faults, element_faults, child_faults, top_faults}
use Rattle.rules.specs.Utf8.{is_utf8}
use Rattle.rules.specs.Check.{is_offset, shift_by, is_too_long, record_faults, check}
use Rattle.rules.specs.Comparison.{Answer, Yes, No, Unknown}
use Rattle.rules.specs.Services.{Compared, compared, compare_checked, comparison, compared_number, compare_answer}
use Rattle.rules.specs.ComparisonPromise.{compared_types, compared_type, Says, IsOf}
use Rattle.rules.proofs.Opened.{opened}
use Rattle.rules.proofs.Precedence.{check-answered}

pub says : (x : Answer) → Says x (compared_number (compared x))
says Yes = record { no_refusal = refl; no_record = refl; answer_given = refl }
says No = record { no_refusal = refl; no_record = refl; answer_given = refl }
says Unknown = record { no_refusal = refl; no_record = refl; answer_given = refl }

-- a record of a type that is accepted under every offset
record Sample (shift : ℕ) (k : Kind) : Type 0 where
  text : List ℕ
  element : Element
  reads : document text ≡ some element
  outside : (is_too_long text ≡ false) × (is_utf8 text ≡ true)
  faultless : top_faults shift element ≡ []
  type : compared_type element ≡ some k

-- a null value of a type
abbrev nulled : Kind → Element
nulled k = record {
  name = bytes "a";
  attrs = record { name = bytes "xsi:type"; value = name_of k } ∷ record { name = bytes "nullFlavor"; value = bytes "UNK" } ∷ [];
  kids = end;
}

-- all times, with these flags
abbrev unbounded : List Attribute → Element
unbounded flags = record {
  name = bytes "a";
  attrs = record { name = bytes "xsi:type"; value = name_of IVL_TS } ∷ flags;
  kids = node (bytes "low") (record { name = bytes "nullFlavor"; value = bytes "NINF" } ∷ []) end
      (node (bytes "high") (record { name = bytes "nullFlavor"; value = bytes "PINF" } ∷ []) end end);
}

abbrev low_open : List Attribute
low_open = record { name = bytes "lowClosed"; value = bytes "false" } ∷ []

flavor-known : (is_flavor (bytes "UNK") ≡ true) × (is_flavor (bytes "NINF") ≡ true) × (is_flavor (bytes "PINF") ≡ true) × (is_flag (bytes "false") ≡ true)
unfolding opened
flavor-known = (refl, refl, refl, refl)

nulled_faultless : (shift : ℕ) → (top_faults shift (nulled MO) ≡ []) × (top_faults shift (nulled II) ≡ []) × (top_faults shift (nulled EN) ≡ [])
unfolding flat_map find exists same begins lookup form_faults line_of attribute_faults element_faults child_faults
nulled_faultless shift = (rw flavor-known.0, rw flavor-known.0, rw flavor-known.0)

unbounded_faultless : (shift : ℕ) → (top_faults shift (unbounded low_open) ≡ []) × (top_faults shift (unbounded []) ≡ [])
unfolding flat_map find exists same begins lookup form_faults child_named endpoint_of line_of attribute_faults element_faults child_faults
unbounded_faultless shift =
    let (unk, ninf, pinf, flag) = flavor-known in
    (rw (ninf, pinf, flag), rw (ninf, pinf))

module _ (offset : ℤ) where
  abbrev shift : ℕ
  shift = shift_by offset

  pub comparison_of : (a b : List ℕ) {o p : Outcome Element} → check offset a ≡ o → check offset b ≡ p → compare_answer offset a b ≡ compared_number (compare_checked shift o p)
  unfolding comparison
  comparison_of a b e f = rw (e, f)

  module _ (ok : is_offset offset ≡ true) where
    sample_is : (k : Kind) (s : Sample shift k) → IsOf offset k s.text s.element
    unfolding record_faults
    sample_is k s = record {
      accepted = (check-answered offset s.text s.element).1 (s.reads, rw (ok, s.outside.0, s.outside.1, s.reads) s.faultless);
      type = s.type;
    }

    abbrev parsed : String → Element
    parsed text = if_some (document (bytes text)) (λ e. e) (record { name = []; attrs = []; kids = end })

    -- the sample that a text is
    abbrev sample : {k : Kind} (text : String) → document (bytes text) ≡ some (parsed text) → is_too_long (bytes text) ≡ false → is_utf8 (bytes text) ≡ true
        → top_faults shift (parsed text) ≡ [] → compared_type (parsed text) ≡ some k → Sample shift k
    sample text d l u f t = record { text = bytes text; element = parsed text; reads = d; outside = (l, u); faultless = f; type = t }

    abbrev Given : Kind → Answer → Type 0
    Given k x = (a b : List ℕ) × (e f : Element) × IsOf offset k a e × IsOf offset k b f × Says x (compare_answer offset a b)

    abbrev result : {k : Kind} → Sample shift k → Sample shift k → Compared
    result a b = compare_checked shift (answered a.element) (answered b.element)

    -- an answer by two samples
    by : (k : Kind) (a b : Sample shift k) (x : Answer) → result a b ≡ compared x → Given k x
    by k a b x d =
        let g = sample_is k a in
        let h = sample_is k b in
        (a.text, b.text, a.element, b.element, g, h, rw (comparison_of a.text b.text g.accepted h.accepted, d) (says x))

    -- a sample; one to which it is equal, one to which it is not, and one of which that is unknown
    given : (k : Kind) (a y n u : Sample shift k) → result a y ≡ compared Yes → result a n ≡ compared No → result a u ≡ compared Unknown → (x : Answer) → Given k x
    given k a y n u e f g Yes = by k a y Yes e
    given k a y n u e f g No = by k a n No f
    given k a y n u e f g Unknown = by k a u Unknown g

    given_time : (x : Answer) → Given TS x
    unfolding opened
    given_time =
        given TS
        (sample "<a xsi:type=\"TS\" value=\"2024010112+00\"/>" refl refl refl refl refl)
        (sample "<a xsi:type=\"TS\" value=\"2024010113+01\"/>" refl refl refl refl refl)
        (sample "<a xsi:type=\"TS\" value=\"2024010113+00\"/>" refl refl refl refl refl)
        (sample "<a xsi:type=\"TS\" value=\"202401011200+00\"/>" refl refl refl refl refl)
        refl refl refl

    given_interval : (x : Answer) → Given IVL_TS x
    unfolding opened
    given_interval Yes =
        by IVL_TS
        (record { text = bytes "<a xsi:type=\"IVL_TS\" lowClosed=\"false\"><low nullFlavor=\"NINF\"/><high nullFlavor=\"PINF\"/></a>"; element = unbounded low_open; reads = refl; outside = (refl, refl); faultless = (unbounded_faultless shift).0; type = refl })
        (record { text = bytes "<a xsi:type=\"IVL_TS\"><low nullFlavor=\"NINF\"/><high nullFlavor=\"PINF\"/></a>"; element = unbounded []; reads = refl; outside = (refl, refl); faultless = (unbounded_faultless shift).1; type = refl })
        Yes refl
    given_interval No =
        by IVL_TS
        (sample "<a xsi:type=\"IVL_TS\" lowClosed=\"true\" highClosed=\"true\"><low value=\"2024010112+00\"/><high value=\"2024010212+00\"/></a>" refl refl refl refl refl)
        (sample "<a xsi:type=\"IVL_TS\" lowClosed=\"false\" highClosed=\"true\"><low value=\"2024010113+01\"/><high value=\"2024010212+00\"/></a>" refl refl refl refl refl)
        No refl
    given_interval Unknown =
        by IVL_TS
        (sample "<a xsi:type=\"IVL_TS\" lowClosed=\"true\" highClosed=\"true\"><low value=\"2024010112+00\"/><high value=\"2024010212+00\"/></a>" refl refl refl refl refl)
        (sample "<a xsi:type=\"IVL_TS\" lowClosed=\"true\"><low value=\"2024010112+00\"/></a>" refl refl refl refl refl)
        Unknown refl

    given_money : (x : Answer) → Given MO x
    unfolding opened
    given_money =
        given MO
        (sample "<a xsi:type=\"MO\" value=\"12.5\" currency=\"EUR\"/>" refl refl refl refl refl)
        (sample "<a xsi:type=\"MO\" value=\"12.50\" currency=\"EUR\"/>" refl refl refl refl refl)
        (sample "<a xsi:type=\"MO\" value=\"12.5\" currency=\"USD\"/>" refl refl refl refl refl)
        (record { text = bytes "<a xsi:type=\"MO\" nullFlavor=\"UNK\"/>"; element = nulled MO; reads = refl; outside = (refl, refl); faultless = (nulled_faultless shift).0; type = refl })
        refl refl refl

    given_identifier : (x : Answer) → Given II x
    unfolding opened
    given_identifier =
        given II
        (sample "<a xsi:type=\"II\" root=\"1.2\"/>" refl refl refl refl refl)
        (sample "<b root=\"1.2\" xsi:type=\"II\"/>" refl refl refl refl refl)
        (sample "<a xsi:type=\"II\" root=\"1.2\" extension=\"x\"/>" refl refl refl refl refl)
        (record { text = bytes "<a xsi:type=\"II\" nullFlavor=\"UNK\"/>"; element = nulled II; reads = refl; outside = (refl, refl); faultless = (nulled_faultless shift).1; type = refl })
        refl refl refl

    given_code : (x : Answer) → Given CD x
    unfolding opened
    given_code =
        given CD
        (sample "<a xsi:type=\"CD\" code=\"x\" codeSystem=\"1.2\"/>" refl refl refl refl refl)
        (sample "<a xsi:type=\"CD\" code=\"x\" codeSystem=\"1.2\" codeSystemName=\"n\"/>" refl refl refl refl refl)
        (sample "<a xsi:type=\"CD\" code=\"y\" codeSystem=\"1.2\"/>" refl refl refl refl refl)
        (sample "<a xsi:type=\"CD\" codeSystem=\"1.3\"/>" refl refl refl refl refl)
        refl refl refl

    given_name : (x : Answer) → Given EN x
    unfolding opened
    given_name =
        given EN
        (sample "<a xsi:type=\"EN\"><part value=\"x\"/><part value=\"y\"/></a>" refl refl refl refl refl)
        (sample "<b xsi:type=\"EN\"><part value=\"x\"/><part value=\"y\"/></b>" refl refl refl refl refl)
        (sample "<a xsi:type=\"EN\"><part value=\"y\"/><part value=\"x\"/></a>" refl refl refl refl refl)
        (record { text = bytes "<a xsi:type=\"EN\" nullFlavor=\"UNK\"/>"; element = nulled EN; reads = refl; outside = (refl, refl); faultless = (nulled_faultless shift).2; type = refl })
        refl refl refl

    pub each_given : (k : Kind) → Memᴰ k compared_types → (x : Answer) → Given k x
    each_given k (Memᴰ.head h) = rw h given_time
    each_given k (Memᴰ.tail (Memᴰ.head h)) = rw h given_interval
    each_given k (Memᴰ.tail (Memᴰ.tail (Memᴰ.head h))) = rw h given_money
    each_given k (Memᴰ.tail (Memᴰ.tail (Memᴰ.tail (Memᴰ.head h)))) = rw h given_identifier
    each_given k (Memᴰ.tail (Memᴰ.tail (Memᴰ.tail (Memᴰ.tail (Memᴰ.head h))))) = rw h given_code
    each_given k (Memᴰ.tail (Memᴰ.tail (Memᴰ.tail (Memᴰ.tail (Memᴰ.tail (Memᴰ.head h)))))) = rw h given_name
    each_given k (Memᴰ.tail (Memᴰ.tail (Memᴰ.tail (Memᴰ.tail (Memᴰ.tail (Memᴰ.tail m)))))) = elim m [ ]
