-- Request A5 is kept, by whatever meets the user's demands.
use Prim.Native.Nat.{ℕ, ◌≤◌, ◌<◌}
use mathlib.Core.Path.{◌≡◌, refl, sym, ◌∙◌, ap, subst}
use mathlib.Core.Logic.{inl, inr, ◌↔◌}
use mathlib.Core.Bool.{Bool, true, false, not, ◌&&◌}
use mathlib.Core.List.{List, [], ◌∷◌, ◌++◌, append-nil, Memᴰ}
use mathlib.Core.Option.{Option, none, some}
use native.Mathlib.Decide.{dec_le, dec_lt}
use native.Mathlib.Omega.{arith}
use borrow.Author.Tests.{le-ltb}
use lib.ListN.{length}
use lib.IntN.{ℤ, pos}
use Rattle.rules.specs.Basics.{is_some, if_some, find, exists, every, bytes, same}
use Rattle.rules.specs.Refusal.{Refusal, OFFSET, TOO_LONG, NOT_UTF_8, MARKUP, TYPE, SHAPE, VALUE, DATE, RULE, UNKNOWN_BOUND, TOO_MANY, NO_ROOM, number, rank_in, rank, first_of, Outcome, answered, refused, faults_in, faults_of, ◌when◌}
use Rattle.rules.specs.Markup.{Attribute, end, node, Element, document}
use Rattle.rules.specs.Timestamp.{Moment, read_timestamp}
use Rattle.rules.specs.Forms.{Form, is_flavor, is_flag, form_faults}
use Rattle.rules.specs.Invariants.{is_null}
use Rattle.rules.specs.Types.{Kind, TS, IVL_TS, QSU_TS, QSI_TS, QSD_TS, MO, II, CD, EN, DisplayName, Part, member_types, all_types, has_type, type_among}
use Rattle.rules.specs.Judge.{top, top_faults}
use Rattle.rules.specs.Utf8.{is_utf8}
use Rattle.rules.specs.Check.{is_offset, shift_by, is_too_long, element_of, record_faults, check}
use Rattle.rules.specs.Services.{room_of}
use Rattle.rules.specs.Comparison.{Answer, Comparer}
use Rattle.rules.specs.ListingPromise.{number_in, is_listed, Refuses, ListingPromise}
use Rattle.rules.specs.ComparisonPromise.{Names, Says}
use Rattle.rules.proofs.Tests.{clash, found}
use Rattle.rules.proofs.Precedence.{rank_injective, number_injective, first-is, check-refused, check-answered}
use Rattle.rules.proofs.Opened.{opened}
use Rattle.rules.proofs.Members.{type-is}
use Rattle.rules.proofs.ListingCases.{faulty, other_type, unclear, many, a_set, case}
use Rattle.rules.proofs.ListingPromise.{small}
use Rattle.rules.proofs.ComparisonPromise.{Pair, pair}
use Rattle.rules.specs.Totals.{Entry}
use Rattle.rules.specs.TotalDays.{Call, reading_of}
use Rattle.demands.specs.Services.{Services}
use Rattle.demands.specs.Totals.{Reads}
use Rattle.demands.specs.WrongTimes.{IsWrongBy, texts_in, texts_of, IsOfTimes, HasWrongForm, wrong_flavor, wrong_flag, wrong_text, retimed_element, HasWrongTime, part_refusals, WrongTimesPromise}
use Rattle.demands.specs.Demands.{IsFirst, Demand2, Demand3}
use Rattle.demands.proofs.Answers.{iff_trans}
use Rattle.demands.proofs.TotalsReadings.{reads}
use Rattle.demands.proofs.WrongTexts.{in_read, is-wrong_by}
use Rattle.demands.proofs.Retimed.{type-same, alike_top}
use Rattle.demands.proofs.TimesWithin.{IsOfText, IsPart, is_part, in_when, not_of_text, not_part, is_timed, IsText, time_text, flavor_text, low_text, high_text, record_timed, own_texts, HasFault, among, element-fault, IsClean, fault_in_element, fault_in_children}

-- the faults that don't lie in the element
abbrev outer_faults : (offset : ℤ) → List ℕ → List Refusal
outer_faults offset input = OFFSET when not (is_offset offset) ++ TOO_LONG when is_too_long input ++ NOT_UTF_8 when not (is_utf8 input)

-- those of the element are the record's
in_record : {q : Refusal} (offset : ℤ) (input : List ℕ) (e : Element) → document input ≡ some e → Memᴰ q (top_faults (shift_by offset) e) → Memᴰ q (record_faults offset input)
unfolding record_faults
in_record offset input e d m = mathlib.Core.List.Memᴰ.append_right (outer_faults offset input) (rw d m)

-- a type that has times, among all and among those that have
pub type_timed : (attrs : List Attribute) (k : Kind) → is_timed k ≡ true → has_type attrs k ≡ true
    → (type_among all_types attrs ≡ some k) × (type_among (TS ∷ member_types) attrs ≡ some k)
unfolding find same exists
type_timed attrs TS t h = rw (type-is attrs TS h) (refl, refl)
type_timed attrs IVL_TS t h = rw (type-is attrs IVL_TS h) (refl, refl)
type_timed attrs QSU_TS t h = rw (type-is attrs QSU_TS h) (refl, refl)
type_timed attrs QSI_TS t h = rw (type-is attrs QSI_TS h) (refl, refl)
type_timed attrs QSD_TS t h = rw (type-is attrs QSD_TS h) (refl, refl)
type_timed attrs MO t h = clash (cc)
type_timed attrs II t h = clash (cc)
type_timed attrs CD t h = clash (cc)
type_timed attrs EN t h = clash (cc)
type_timed attrs DisplayName t h = clash (cc)
type_timed attrs Part t h = clash (cc)

all_timed : every is_timed (TS ∷ member_types) ≡ true
unfolding every exists same
all_timed = refl

all_true : every (λ k. true) all_types ≡ true
unfolding every
all_true = refl

of_part : (r : Refusal) → IsPart r → IsOfText r
of_part r part = omega (arith, part)

-- not all pass a test exactly if one does not
none_of : {A : Type 0} (p : A → Bool) {a : A} {l : List A} → Memᴰ a l → p a ≡ false → every p l ≡ false
unfolding every
none_of p (mathlib.Core.List.Memᴰ.head e) h = rw (← e, h) refl
none_of p (mathlib.Core.List.Memᴰ.tail {x = x} m) h = go (p x) (none_of p m h)
  where
    go : (b : Bool) {c : Bool} → c ≡ false → (b && c) ≡ false
    go true e = e
    go false e = refl

one_of_lem : {A : Type 0} (p : A → Bool) (l : List A) → every p l ≡ false → (a : A) × Memᴰ a l × (p a ≡ false)
unfolding every
one_of_lem p [] h = clash (cc)
one_of_lem p (a ∷ l) h = go (p a) refl h (one_of_lem p l)
  where
    go : (b : Bool) → p a ≡ b → (b && every p l) ≡ false → (every p l ≡ false → (c : _) × Memᴰ c l × (p c ≡ false)) → (c : _) × Memᴰ c (a ∷ l) × (p c ≡ false)
    go false e h below = (a, mathlib.Core.List.Memᴰ.head refl, e)
    go true e h below = let (c, m, f) = below h in (c, mathlib.Core.List.Memᴰ.tail m, f)

given_when : (good : Bool) → Memᴰ VALUE (VALUE when not good) → good ≡ false
given_when true m = absurd (mathlib.Core.List.Memᴰ.not-nil m)
given_when false m = refl

-- a fault of a text stands in the record's element
module _ (q : Refusal) (of-text : IsOfText q) where
  record_fault : (offset : ℤ) (input : List ℕ) → Memᴰ q (record_faults offset input) → (e : Element) × (document input ≡ some e) × Memᴰ q (top_faults (shift_by offset) e)
  unfolding record_faults rank_in
  record_fault offset input m = elim (mathlib.Core.List.Memᴰ.append_cases (outer_faults offset input) m) [
    | inl m ↦ elim (mathlib.Core.List.Memᴰ.append_cases (OFFSET when not (is_offset offset) ++ TOO_LONG when is_too_long input) m) [
      | inl m ↦ elim (mathlib.Core.List.Memᴰ.append_cases (OFFSET when not (is_offset offset)) m) [
        | inl m ↦ not_of_text q of-text OFFSET (λ p. omega (arith, p)) (in_when (not (is_offset offset)) m)
        | inr m ↦ not_of_text q of-text TOO_LONG (λ p. omega (arith, p)) (in_when (is_too_long input) m)
      ]
      | inr m ↦ not_of_text q of-text NOT_UTF_8 (λ p. omega (arith, p)) (in_when (not (is_utf8 input)) m)
    ]
    | inr m ↦ go (document input) refl m
  ]
    where
      go : (o : Option Element) → document input ≡ o → Memᴰ q (faults_in (top_faults (shift_by offset)) (if_some o answered (refused MARKUP)))
          → (e : Element) × (document input ≡ some e) × Memᴰ q (top_faults (shift_by offset) e)
      go none d m = not_of_text q of-text MARKUP (λ p. omega (arith, p)) (mathlib.Core.List.Memᴰ.eq_of_singleton m)
      go (some e) d m = (e, d, m)

-- a record's element of a type that has times: it has a fault of a text exactly if one of its texts has, where nothing is wrong by TYPE or SHAPE
module _ (shift : ℕ) (e : Element) where
  abbrev texts : (name : List ℕ) → List (List ℕ)
  texts name = texts_in name (node e.name e.attrs e.kids end)

  abbrev HasTimes : Type 0
  HasTimes = is_some (type_among (TS ∷ member_types) e.attrs) ≡ true

  kind_of_times : HasTimes → (k : Kind) × (type_among all_types e.attrs ≡ some k) × (is_timed k ≡ true)
  kind_of_times t = go (type_among (TS ∷ member_types) e.attrs) refl t
    where
      go : (o : Option Kind) → type_among (TS ∷ member_types) e.attrs ≡ o → is_some o ≡ true → (k : Kind) × (type_among all_types e.attrs ≡ some k) × (is_timed k ≡ true)
      go none f t = clash (cc)
      go (some k) f t =
          let (g, l) = found (has_type e.attrs) is_timed (TS ∷ member_types) k all_timed f in
          (k, (type_timed e.attrs k l g).0, l)

  part_of_times : (r : Refusal) → IsPart r → Memᴰ r (top_faults shift e) → HasTimes
  part_of_times r part m =
      let (k, f, t) = record_timed shift r part top (type_among all_types e.attrs) e.attrs e.kids m in
      ap is_some (type_timed e.attrs k t (found (has_type e.attrs) (λ k. true) all_types k all_true f).0).1

  fault_of_text : HasTimes → (q : Refusal) → IsOfText q → Memᴰ q (top_faults shift e) → HasFault shift q texts
  unfolding texts_in
  fault_of_text t q of-text m =
      let (k, f, l) = kind_of_times t in
      among (λ name text i. mathlib.Core.List.Memᴰ.append_left [] i) (element-fault shift q of-text top k e.attrs e.kids l (rw f at m))

  text_of_fault : HasTimes → (q : Refusal) → IsClean (top_faults shift e) → HasFault shift q texts → Memᴰ q (top_faults shift e)
  unfolding texts_in
  text_of_fault t q c h =
      let (k, f, l) = kind_of_times t in
      rw f (fault_in_element shift q top k e.attrs e.kids _ l (fault_in_children shift q k (is_null e.attrs) 0 e.kids l) (rw f at c)
      (among (λ name text i. subst (Memᴰ text) (append-nil (own_texts name e.attrs ++ texts_in name e.kids)) i) h))

module _ (r : Refusal) (part : IsPart r) where
  -- of a check's fault and TYPE for what is not allowed, the first is one of the three only if it is the check's and the record is allowed
  first_allowed : (offset : ℤ) (input : List ℕ) (allowed : Element → Bool) (q : Refusal) → check offset input ≡ refused q
      → first_of (q ∷ faults_in (λ e. TYPE when not (allowed e)) (element_of input)) ≡ some r
      → (check offset input ≡ refused r) × ((e : Element) × (document input ≡ some e) × (allowed e ≡ true))
  unfolding rank_in
  first_allowed offset input allowed q c f = by_element (document input) refl ((first-is _ r).0 f)
    where
      by_type : (e : Element) → document input ≡ some e → (b : Bool) → allowed e ≡ b → IsFirst r (q ∷ TYPE when not b)
          → (check offset input ≡ refused r) × ((e : Element) × (document input ≡ some e) × (allowed e ≡ true))
      by_type e d true t (m, l) = (c ∙ ap refused (sym (mathlib.Core.List.Memᴰ.eq_of_singleton m)), (e, d, t))
      by_type e d false t (m, l) = clash (omega (arith, part, l TYPE (mathlib.Core.List.Memᴰ.tail (mathlib.Core.List.Memᴰ.head refl))))

      by_element : (o : Option Element) → document input ≡ o → IsFirst r (q ∷ faults_in (λ e. TYPE when not (allowed e)) (if_some o answered (refused MARKUP)))
          → (check offset input ≡ refused r) × ((e : Element) × (document input ≡ some e) × (allowed e ≡ true))
      by_element none d (m, l) = clash (omega (arith, part, l MARKUP (mathlib.Core.List.Memᴰ.tail (mathlib.Core.List.Memᴰ.head refl))))
      by_element (some e) d h = by_type e d (allowed e) refl h

-- a record of money has no time, so that adding gives none of the three
pub money_timeless : (k : Call) (r : Refusal) → reading_of k ≡ refused r → Memᴰ r part_refusals → ⊥
unfolding find same rank_in
money_timeless k r e m = go (reads k) e
  where
    other-type_of : (e : Element) → is_some (type_among (TS ∷ member_types) e.attrs) ≡ true → has_type e.attrs MO ≡ true → ⊥
    other-type_of e t h = clash (cc (rw (type-is e.attrs MO h) at t))

    go : {o : Outcome Entry} → Reads k o → o ≡ refused r → ⊥
    go (Reads.faulty {q = q} c f) e =
        let z : q ≡ r = cc in
        let (d, (a, g, h)) = first_allowed r (is_part m) k.offset k.record' (λ e. has_type e.attrs MO) _ c (rw z at f) in
        let (b, i, n) = record_fault r (of_part r (is_part m)) k.offset k.record' ((first-is (record_faults k.offset k.record') r).0 ((check-refused k.offset k.record' r).0 d)).0 in
        let y : b ≡ a = cc in
        other-type_of b (part_of_times (shift_by k.offset) b r (is_part m) n) (rw y h)
    go (Reads.other_type c t) e = let z : r ≡ TYPE = cc in absurd (omega (arith, ap rank z, is_part m))
    go (Reads.a_null c t n) e = clash (cc)
    go (Reads.an_amount c t n l v w) e = clash (cc)

-- the fault of a text that is to be a time, by the text
time-fault : (shift : ℕ) (text : List ℕ) (r : Refusal) → Memᴰ r (form_faults shift Form.timestamp text) ↔ IsWrongBy text r
unfolding form_faults
time-fault shift text r = iff_trans (in_read (read_timestamp shift text) r) (is-wrong_by shift text r)

-- a record of times: nothing that stands before VALUE applies to it
module _ (offset : ℤ) (input : List ℕ) (e : Element) where
  abbrev shift : ℕ
  shift = shift_by offset

  nothing-before : IsOfTimes offset input e → (q : Refusal) → Memᴰ q (record_faults offset input) → rank VALUE ≤ rank q
  unfolding record_faults
  nothing-before t q m = elim (dec_le (rank VALUE) (rank q)) [
    | yes l ↦ l
    | no l ↦
        let n : Memᴰ q (top_faults shift e) = rw (t.offset_allowed, t.not_too_long, t.utf_8, t.read) at m in
        t.shaped q ((alike_top shift e q (omega (arith, l))).1 n)
  ]

  of_times : document input ≡ some e → HasTimes shift e → ((q : Refusal) → Memᴰ q (record_faults offset input) → rank VALUE ≤ rank q) → IsOfTimes offset input e
  unfolding record_faults rank_in
  of_times d t before = record {
    offset_allowed = allowed (is_offset offset) refl;
    not_too_long = short (is_too_long input) refl;
    utf_8 = characters (is_utf8 input) refl;
    read = d;
    type = ap is_some (type-same (TS ∷ member_types) e.attrs) ∙ t;
    shaped = λ q m. elim (dec_le (rank VALUE) (rank q)) [ yes l ↦ l | no l ↦ before q (in_record offset input e d ((alike_top shift e q (omega (arith, l))).0 m)) ];
  }
    where
      outer : {q : Refusal} → Memᴰ q (outer_faults offset input) → rank VALUE ≤ rank q
      outer {q} m = before q (mathlib.Core.List.Memᴰ.append_left _ m)

      allowed : (b : Bool) → is_offset offset ≡ b → b ≡ true
      allowed true f = refl
      allowed false f = absurd (omega (arith, outer {q = OFFSET} (rw f (mathlib.Core.List.Memᴰ.head refl))))

      short : (b : Bool) → is_too_long input ≡ b → b ≡ false
      short false f = refl
      short true f = absurd (omega (arith, outer {q = TOO_LONG} (mathlib.Core.List.Memᴰ.append_left _ (mathlib.Core.List.Memᴰ.append_right (OFFSET when not (is_offset offset)) (rw f (mathlib.Core.List.Memᴰ.head refl))))))

      characters : (b : Bool) → is_utf8 input ≡ b → b ≡ true
      characters true f = refl
      characters false f = absurd (omega (arith, outer {q = NOT_UTF_8} (mathlib.Core.List.Memᴰ.append_right (OFFSET when not (is_offset offset) ++ TOO_LONG when is_too_long input) (rw f (mathlib.Core.List.Memᴰ.head refl)))))

  has-times : IsOfTimes offset input e → HasTimes shift e
  has-times t = ap is_some (sym (type-same (TS ∷ member_types) e.attrs)) ∙ t.type

  is_clean : IsOfTimes offset input e → IsClean (top_faults shift e)
  unfolding rank_in
  is_clean t =
      let early : (q : Refusal) → Memᴰ q (top_faults shift e) → rank VALUE ≤ rank q = λ q m. nothing-before t q (in_record offset input e t.read m) in
      (λ m. omega (arith, early TYPE m), λ m. omega (arith, early SHAPE m))

  -- the fault of a text in it is a fault of the record, and the other way round
  text_given : IsOfTimes offset input e → (q : Refusal) → HasFault shift q (texts shift e) → Memᴰ q (record_faults offset input)
  text_given t q h = in_record offset input e t.read (text_of_fault shift e (has-times t) q (is_clean t) h)

  given_text : IsOfTimes offset input e → (q : Refusal) → IsOfText q → Memᴰ q (record_faults offset input) → HasFault shift q (texts shift e)
  given_text t q of-text m =
      let (f, d, n) = record_fault q of-text offset input m in
      let z : f ≡ e = cc (d, t.read) in
      fault_of_text shift e (has-times t) q of-text (rw z at n)

  -- a text that is of the wrong form has VALUE, and what has VALUE is of the wrong form
  ill_formed : {name : List ℕ} {form : Form} (x : IsText name form) (text : List ℕ) → Memᴰ text (texts shift e name) → Memᴰ VALUE (form_faults shift form text) → HasWrongForm e
  unfolding form_faults
  ill_formed time_text text i m = wrong_text text i ((time-fault shift text VALUE).0 m)
  ill_formed flavor_text text i m = wrong_flavor (none_of is_flavor i (given_when (is_flavor text) m))
  ill_formed low_text text i m = wrong_flag (none_of is_flag (mathlib.Core.List.Memᴰ.append_left (texts_of "highClosed" e) i) (given_when (is_flag text) m))
  ill_formed high_text text i m = wrong_flag (none_of is_flag (mathlib.Core.List.Memᴰ.append_right (texts_of "lowClosed" e) i) (given_when (is_flag text) m))

  form-fault : HasWrongForm e → HasFault shift VALUE (texts shift e)
  unfolding form_faults
  form-fault (wrong_text text i w) =
      record { name = bytes "value"; form = Form.timestamp; is_text = time_text; text = text; stands = i; fault = (time-fault shift text VALUE).1 w }
  form-fault (wrong_flavor h) =
      let (text, i, f) = one_of_lem is_flavor (texts_of "nullFlavor" e) h in
      record { name = bytes "nullFlavor"; form = Form.flavor; is_text = flavor_text; text = text; stands = i; fault = rw f (mathlib.Core.List.Memᴰ.head refl) }
  form-fault (wrong_flag h) =
      let (text, i, f) = one_of_lem is_flag (texts_of "lowClosed" e ++ texts_of "highClosed" e) h in
      elim (mathlib.Core.List.Memᴰ.append_cases (texts_of "lowClosed" e) {t = texts_of "highClosed" e} i) [
        | inl i ↦ record { name = bytes "lowClosed"; form = Form.flag; is_text = low_text; text = text; stands = i; fault = rw f (mathlib.Core.List.Memᴰ.head refl) }
        | inr i ↦ record { name = bytes "highClosed"; form = Form.flag; is_text = high_text; text = text; stands = i; fault = rw f (mathlib.Core.List.Memᴰ.head refl) }
      ]

  pub stays-value : IsOfTimes offset input e → IsFirst VALUE (record_faults offset input) ↔ HasWrongForm e
  unfolding rank_in
  stays-value t = (
    λ (m, l). let h = given_text t VALUE (omega arith) m in ill_formed h.is_text h.text h.stands h.fault,
    λ h. (text_given t VALUE (form-fault h), nothing-before t),
  )

  module _ (r : Refusal) (part : IsPart r) where
    wrong_first : IsOfTimes offset input e → HasWrongTime e r → IsFirst r (record_faults offset input)
    unfolding form_faults
    wrong_first t w = (text_given t r (record { name = bytes "value"; form = Form.timestamp; is_text = time_text; text = w.text; stands = w.stands; fault = (time-fault shift w.text r).1 w.wrong }), least)
      where
        by_text : (q : Refusal) → rank VALUE < rank q → {name : List ℕ} {form : Form} → IsText name form → (text : List ℕ) → Memᴰ text (texts shift e name)
            → Memᴰ q (form_faults shift form text) → rank r ≤ rank q
        by_text q l time_text text i m = w.first text q i ((time-fault shift text q).0 m)
        by_text q l flavor_text text i m = absurd (omega (arith, l, ap rank (in_when (not (is_flavor text)) m)))
        by_text q l low_text text i m = absurd (omega (arith, l, ap rank (in_when (not (is_flag text)) m)))
        by_text q l high_text text i m = absurd (omega (arith, l, ap rank (in_when (not (is_flag text)) m)))

        by_fault : (q : Refusal) → rank VALUE < rank q → HasFault shift q (texts shift e) → rank r ≤ rank q
        by_fault q l h = by_text q l h.is_text h.text h.stands h.fault

        -- VALUE is given by a wrong form alone
        not-value : (q : Refusal) → Memᴰ q (record_faults offset input) → rank VALUE < rank q
        not-value q m = elim (dec_lt (rank VALUE) (rank q)) [
          | yes l ↦ l
          | no l ↦
              let z : q ≡ VALUE = rank_injective q VALUE (omega (arith, l, nothing-before t q m)) in
              absurd (w.formed ((stays-value t).0 (rw z at m, nothing-before t)))
        ]

        least : (q : Refusal) → Memᴰ q (record_faults offset input) → rank r ≤ rank q
        least q m = elim (dec_lt (rank q) (rank RULE)) [
          | no l ↦ omega (arith, part, l)
          | yes l ↦ by_fault q (not-value q m) (given_text t q (omega (arith, l, not-value q m)) m)
        ]

    first-wrong : document input ≡ some e → Memᴰ r (top_faults shift e) → IsFirst r (record_faults offset input) → IsOfTimes offset input e × HasWrongTime e r
    unfolding form_faults
    first-wrong d n (m, least) = (t, by_text h.is_text h.text h.stands h.fault)
      where
        before : (q : Refusal) → Memᴰ q (record_faults offset input) → rank VALUE ≤ rank q
        before q m = omega (arith, part, least q m)

        t : IsOfTimes offset input e
        t = of_times d (part_of_times shift e r part n) before

        h : HasFault shift r (texts shift e)
        h = fault_of_text shift e (has-times t) r (of_part r part) n

        by_text : {name : List ℕ} {form : Form} → IsText name form → (text : List ℕ) → Memᴰ text (texts shift e name) → Memᴰ r (form_faults shift form text) → HasWrongTime e r
        by_text time_text text i m = record {
          formed = λ f. omega (arith, part, least VALUE ((stays-value t).1 f).0);
          text = text;
          stands = i;
          wrong = (time-fault shift text r).0 m;
          first = λ text q i w. least q (text_given t q (record { name = bytes "value"; form = Form.timestamp; is_text = time_text; text = text; stands = i; fault = (time-fault shift text q).1 w }));
        }
        by_text flavor_text text i m = not_part r part VALUE (λ p. omega (arith, p)) (in_when (not (is_flavor text)) m)
        by_text low_text text i m = not_part r part VALUE (λ p. omega (arith, p)) (in_when (not (is_flag text)) m)
        by_text high_text text i m = not_part r part VALUE (λ p. omega (arith, p)) (in_when (not (is_flag text)) m)

-- a text has one fault, that of reading it
first_of_read : (o : Outcome Moment) (r : Refusal) → IsFirst r (faults_of o ++ []) ↔ o ≡ refused r
first_of_read (answered m) r = (λ h. absurd (mathlib.Core.List.Memᴰ.not-nil h.0), λ e. clash (cc))
first_of_read (refused q) r = (
  λ h. ap refused (sym (mathlib.Core.List.Memᴰ.eq_of_singleton h.0)),
  λ e. let z : q ≡ r = cc in rw z (mathlib.Core.List.Memᴰ.head refl, λ p m. rw (mathlib.Core.List.Memᴰ.eq_of_singleton m) (omega arith)),
)

-- what a comparison answers: one record is refused by its check, or the types differ, or the values are compared
data Comparing (offset : ℤ) (first second : List ℕ) (answer : ℕ) : Type 0 where
  of_first : (q : Refusal) → check offset first ≡ refused q → Names 1 q answer → Comparing offset first second answer
  of_second : (a : Element) (q : Refusal) → check offset first ≡ answered a → check offset second ≡ refused q → Names 2 q answer → Comparing offset first second answer
  of_types : Names 2 TYPE answer → Comparing offset first second answer
  an_answer : (x : Answer) → Says x answer → Comparing offset first second answer

module _ (s : Services) (two : Demand2 s) (three : Demand3 s) (offset : ℤ) where
  ticks : (text : List ℕ) → is_offset offset ≡ true → length text ≤ 16_384 → (r : Refusal) → number_in (s.tick_says offset text) ≡ number r ↔ IsWrongBy text r
  ticks text e l r =
      iff_trans (rw (e, le-ltb 16_384 (length text) l) at (two.time_refused offset text r))
      (iff_trans (first_of_read (read_timestamp (shift_by offset) text) r) (is-wrong_by (shift_by offset) text r))

  -- checking says what is refused, and what is accepted
  checked : (input : List ℕ) (r : Refusal) → number_in (s.check_says offset input) ≡ number r ↔ check offset input ≡ refused r
  checked input r =
      let (f, g) = iff_trans (check-refused offset input r) (first-is (record_faults offset input) r) in
      iff_trans (two.refused offset input r) (g, f)

  accepted : (input : List ℕ) → number_in (s.check_says offset input) ≡ 0 ↔ (e : Element) × (check offset input ≡ answered e)
  accepted input = (λ z. go z (check offset input) refl, λ (e, c). (two.accepted offset input).1 ((check-answered offset input e).0 c).1)
    where
      go : number_in (s.check_says offset input) ≡ 0 → (o : Outcome Element) → check offset input ≡ o → (e : Element) × (check offset input ≡ answered e)
      go z (answered e) c = (e, c)
      go z (refused q) c = clash (omega (arith, small q, z, (checked input q).1 c))

  comparing : (first second : List ℕ) → Comparing offset first second (s.compare_says offset first second)
  comparing first second = go (check offset first) (check offset second) refl refl
    where
      by_type : (a b : Element) {o : Option Comparer} → Pair a b o → check offset first ≡ answered a → check offset second ≡ answered b
          → Comparing offset first second (s.compare_says offset first second)
      by_type a b (Pair.alike k f u v c) e d =
          let (x, h) = (two.comparison_promise offset).answer k first second a b (record { accepted = e; type = u }) (record { accepted = d; type = v }) in an_answer x h
      by_type a b (Pair.unlike h) e d = of_types ((two.comparison_promise offset).type_refused first second a b e d (λ k x y. h k x.type y.type))

      go : (o u : Outcome Element) → check offset first ≡ o → check offset second ≡ u → Comparing offset first second (s.compare_says offset first second)
      go (refused q) u e d = of_first q e ((two.comparison_promise offset).first_refused first second q e)
      go (answered a) (refused q) e d = of_second a q e d ((two.comparison_promise offset).second_refused first second a q e d)
      go (answered a) (answered b) e d = by_type a b (pair a b) e d

  module _ (r : Refusal) (part : IsPart r) where
    checks : (input : List ℕ) → number_in (s.check_says offset input) ≡ number r ↔ (e : Element) × IsOfTimes offset input e × HasWrongTime e r
    checks input = iff_trans (two.refused offset input r) (
      λ h. let (e, d, n) = record_fault r (of_part r part) offset input h.0 in let (t, w) = first-wrong offset input e r part d n h in (e, t, w),
      λ (e, t, w). wrong_first offset input e r part t w,
    )

    module _ (first second : List ℕ) where
      -- two refusals that an answer names are one
      same-named : {v w : ℕ} {q : Refusal} {answer : ℕ} → Names v q answer → Names w r answer → (q ≡ r) × (v ≡ w)
      same-named {q = q} m n = (number_injective q r (sym m.number_given ∙ n.number_given), sym m.record_named ∙ n.record_named)

      no_answer : {w : ℕ} {x : Answer} {answer : ℕ} {A : Type 0} → Says x answer → Names w r answer → A
      no_answer h n = clash (omega (arith, small r, h.no_refusal, n.number_given))

      compares_first : Names 1 r (s.compare_says offset first second) ↔ (number_in (s.check_says offset first) ≡ number r)
      compares_first = (
        λ n. elim (comparing first second) [
          | of_first q c m ↦ (checked first r).1 (c ∙ ap refused (same-named m n).0)
          | of_second a q c d m ↦ clash (omega (arith, (same-named m n).1))
          | of_types m ↦ clash (omega (arith, (same-named m n).1))
          | an_answer x h ↦ no_answer h n
        ],
        λ e. (two.comparison_promise offset).first_refused first second r ((checked first r).0 e),
      )

      compares_second : Names 2 r (s.compare_says offset first second) ↔ (number_in (s.check_says offset first) ≡ 0) × (number_in (s.check_says offset second) ≡ number r)
      unfolding rank_in
      compares_second = (
        λ n. elim (comparing first second) [
          | of_first q c m ↦ clash (omega (arith, (same-named m n).1))
          | of_second a q c d m ↦ ((accepted first).1 (a, c), (checked second r).1 (d ∙ ap refused (same-named m n).0))
          | of_types m ↦ not_part r part TYPE (λ p. omega (arith, p)) (sym (same-named m n).0)
          | an_answer x h ↦ no_answer h n
        ],
        λ (z, e). let (a, c) = (accepted first).0 z in (two.comparison_promise offset).second_refused first second a r c ((checked second r).0 e),
      )

    listed_same : (e : Element) → is_listed (retimed_element e) ≡ is_listed e
    listed_same e = ap is_some (type-same member_types e.attrs)

    lists : (input list : List ℕ) → number_in (s.list_says offset input list) ≡ number r
        ↔ (number_in (s.check_says offset input) ≡ number r) × ((e : Element) × (document input ≡ some e) × (is_listed (retimed_element e) ≡ true))
    unfolding rank_in first_of
    lists input list = (there, back)
      where
        promise : ListingPromise offset input (s.list_says offset input list) list (s.list_leaves offset input list)
        promise = three.listing_promise offset input list

        given : {q : Refusal} → number_in (s.list_says offset input list) ≡ number r → Refuses offset input (s.list_says offset input list) list (s.list_leaves offset input list) q → r ≡ q
        given {q} n h = number_injective r q (sym n ∙ h.number_given)

        there : number_in (s.list_says offset input list) ≡ number r → (number_in (s.check_says offset input) ≡ number r) × ((e : Element) × (document input ≡ some e) × (is_listed (retimed_element e) ≡ true))
        there n = elim (case offset input) [
          | faulty q t c f ↦ let (d, l) = first_allowed r part offset input is_listed q c (f ∙ ap some (sym (given n (promise.faulty q t c f)))) in ((checked input r).1 d, (l.0, l.1, listed_same l.0 ∙ l.2))
          | other_type e c l ↦ not_part r part TYPE (λ p. omega (arith, p)) (given n (promise.other_type e c l))
          | unclear e c l u ↦ not_part r part UNKNOWN_BOUND (λ p. omega (arith, p)) (given n (promise.unknown_bound.1 (e, c, l, u)))
          | many e c l u m ↦ not_part r part TOO_MANY (λ p. omega (arith, p)) (given n (promise.too_many.1 (e, c, l, u, m)))
          | a_set e h ↦
              let t = promise.sets e h in
              elim (dec_le (length t.stretches) (room_of list)) [
                | yes l ↦ clash (omega (arith, small r, n, (t.room l).number_given))
                | no l ↦ not_part r part NO_ROOM (λ p. omega (arith, p)) (given n (t.no_room.1 (omega (arith, l))))
              ]
        ]

        back : (number_in (s.check_says offset input) ≡ number r) × ((e : Element) × (document input ≡ some e) × (is_listed (retimed_element e) ≡ true)) → number_in (s.list_says offset input list) ≡ number r
        back (n, (e, d, l)) = (promise.faulty r r ((checked input r).0 n) (let l : is_listed e ≡ true = sym (listed_same e) ∙ l in rw (d, l))).number_given

pub wrong-times_kept : (s : Services) → Demand2 s → Demand3 s → WrongTimesPromise s
unfolding rank_in opened
wrong-times_kept s two three = record {
  ticks = ticks s two three;
  before_value = λ offset. alike_top (shift_by offset);
  checks = λ offset input r m. checks s two three offset r (is_part m) input;
  stays = λ offset input e t. iff_trans (two.refused offset input VALUE) (stays-value offset input e t);
  compares_first = λ offset first second r m. compares_first s two three offset r (is_part m) first second;
  compares_second = λ offset first second r m. compares_second s two three offset r (is_part m) first second;
  lists = λ offset input list r m. lists s two three offset r (is_part m) input list;
  example = (ticks s two three (pos 0) (bytes "19000229") refl (omega arith) DATE).1 ((is-wrong_by 840 (bytes "19000229") DATE).0 refl);
  numbers = (refl, refl, refl);
  order = (refl, refl, refl, refl);
  not_by_size = λ r m. by_part m;
}
  where
    by_part : {r : Refusal} → Memᴰ r part_refusals → (number RULE < number r) × (rank r < rank RULE)
    by_part m = elim (mathlib.Core.List.Memᴰ.cases_cons m) [
      | inl e ↦ rw e (omega arith)
      | inr m ↦ elim (mathlib.Core.List.Memᴰ.cases_cons m) [ inl e ↦ rw e (omega arith) | inr m ↦ rw (mathlib.Core.List.Memᴰ.eq_of_singleton m) (omega arith) ]
    ]
