-- What listing answers, case by case.
use Prim.Native.Nat.{ℕ, ◌≤◌, ◌<◌}
use mathlib.Core.Path.{◌≡◌, refl, ◌∙◌, ap}
use mathlib.Core.Bool.{Bool, true, false, not, cond}
use mathlib.Core.List.Memᴰ
use mathlib.Core.List.{List, [], ◌∷◌, ◌++◌, append-eq-nil_iff}
use mathlib.Core.Option.{Option, none, some}
use native.Mathlib.Decide.{dec_le}
use native.Mathlib.Omega.{arith}
use borrow.Author.Tests.{lt-ltb, le-ltb, le-leb, not-false}
use lib.Dec.{ltb}
use lib.ListN.{length}
use lib.IntN.{ℤ}
use Rattle.rules.specs.Basics.{is_some, find}
use Rattle.rules.specs.Refusal.{Refusal, OFFSET, TOO_LONG, NOT_UTF_8, MARKUP, TYPE, UNKNOWN_BOUND, TOO_MANY, NO_ROOM, rank_in, rank, earlier, first_of, Outcome, answered, refused, faults_in, ◌unless◌, ◌when◌, ◌and_then◌}
use Rattle.rules.specs.Markup.{Attribute, Element, document}
use Rattle.rules.specs.Types.{IVL_TS, QSU_TS, QSI_TS, QSD_TS, member_types, has_type, type_among}
use Rattle.rules.specs.Utf8.{is_utf8}
use Rattle.rules.specs.Check.{is_offset, shift_by, is_too_long, element_of, record_faults, check}
use Rattle.rules.specs.Judge.{top_faults}
use Rattle.rules.specs.Invariants.{is_null}
use Rattle.rules.specs.Sets.{Expression}
use Rattle.rules.specs.Stretches.{stretches}
use Rattle.rules.specs.Listing.{operation_of, set_from, set_of, intervals_written, unlisted, list_element}
use Rattle.rules.specs.Services.{listing}
use Rattle.rules.specs.ListingPromise.{is_clear, is_listed, IsSetOfTimes}
use Rattle.rules.proofs.Tests.{clash}
use Rattle.rules.proofs.Precedence.{earlier_comm, first-is, when_none, unless_none, check-answered, check-refused}
use Rattle.rules.proofs.CheckRefusals.{one_more, first_passes, is_of_record, check_refusals, type_passes}
use Rattle.rules.proofs.Members.{set-refused, unclear_set}

-- no member type: no operation either
no_operation : (attrs : List Attribute) → is_some (type_among member_types attrs) ≡ false → (has_type attrs IVL_TS ≡ false) × (operation_of attrs ≡ none)
unfolding find
no_operation attrs = go _ _ _ _ refl refl refl refl
  where
    go : (a b c d : Bool) → has_type attrs IVL_TS ≡ a → has_type attrs QSU_TS ≡ b → has_type attrs QSI_TS ≡ c → has_type attrs QSD_TS ≡ d
        → is_some (cond a (some IVL_TS) (cond b (some QSU_TS) (cond c (some QSI_TS) (cond d (some QSD_TS) none)))) ≡ false
        → (has_type attrs IVL_TS ≡ false) × (operation_of attrs ≡ none)
    go true b c d f g h i e = clash (cc)
    go false true c d f g h i e = clash (cc)
    go false false true d f g h i e = clash (cc)
    go false false false true f g h i e = clash (cc)
    go false false false false f g h i e = (f, rw (g, h, i))

module _ (shift room : ℕ) (e : Element) where
  pub element-unlisted : is_listed e ≡ false → (list_element shift room e unless unlisted e) ≡ refused TYPE
  unfolding list_element set_from first_of rank_in
  element-unlisted l = let (f, g) = no_operation e.attrs l in rw (l, f, g) (go (is_null e.attrs))
    where
      go : (b : Bool) → ((cond b (refused UNKNOWN_BOUND) (refused TYPE) and_then λ s.
          answered (stretches s) unless TOO_MANY when ltb 32 (intervals_written e) ++ NO_ROOM when ltb room (length (stretches s))) unless TYPE ∷ []) ≡ refused TYPE
      go true = refl
      go false = refl

  pub element-listed : is_listed e ≡ true → (list_element shift room e unless unlisted e) ≡ list_element shift room e
  element-listed l = rw l (unless_none (list_element shift room e))

  pub element_unclear : {r : Refusal} → set_of shift e ≡ refused r → list_element shift room e ≡ refused r
  unfolding list_element
  element_unclear h = rw h

  module _ (s : Expression) (known : set_of shift e ≡ answered s) where
    pub element_too_many : 32 < intervals_written e → list_element shift room e ≡ refused TOO_MANY
    unfolding list_element first_of rank_in
    element_too_many l = rw (known, lt-ltb 32 (intervals_written e) l) (go (ltb room (length (stretches s))))
      where
        go : (b : Bool) → (answered (stretches s) unless TOO_MANY ∷ [] ++ NO_ROOM when b) ≡ refused TOO_MANY
        go true = refl
        go false = refl

    pub element_no_room : intervals_written e ≤ 32 → room < length (stretches s) → list_element shift room e ≡ refused NO_ROOM
    unfolding list_element first_of rank_in
    element_no_room f l = rw (known, le-ltb 32 (intervals_written e) f, lt-ltb room (length (stretches s)) l)

    pub element-listing : intervals_written e ≤ 32 → length (stretches s) ≤ room → list_element shift room e ≡ answered (stretches s)
    unfolding list_element first_of
    element-listing f l = rw (known, le-ltb 32 (intervals_written e) f, le-ltb room (length (stretches s)) l)

-- of two faults the one that stands first
first_left : (r q : Refusal) → rank r ≤ rank q → first_of (r ∷ q ∷ []) ≡ some r
unfolding first_of
first_left r q h = rw (le-leb (rank r) (rank q) h)

first_right : (r q : Refusal) → rank q ≤ rank r → first_of (r ∷ q ∷ []) ≡ some q
unfolding first_of
first_right r q h = earlier_comm (some r) (some q) ∙ first_left q r h

-- the faults that don't lie in the element
abbrev outer_faults : (offset : ℤ) → List ℕ → List Refusal
outer_faults offset input = OFFSET when not (is_offset offset) ++ TOO_LONG when is_too_long input ++ NOT_UTF_8 when not (is_utf8 input)

-- an accepted record's element has no fault
pub check_faultless : (offset : ℤ) (input : List ℕ) {e : Element} → check offset input ≡ answered e → top_faults (shift_by offset) e ≡ []
unfolding record_faults
check_faultless offset input {e} h =
    let (d, f) = (check-answered offset input e).0 h in
    rw d at ((append-eq-nil_iff {p = outer_faults offset input} {q = faults_in (top_faults (shift_by offset)) (element_of input)}).0 f).1

-- and its offset is in range
pub check-offset : (offset : ℤ) (input : List ℕ) {e : Element} → check offset input ≡ answered e → is_offset offset ≡ true
unfolding record_faults
check-offset offset input {e} h =
    let early = OFFSET when not (is_offset offset) in
    let f = ((append-eq-nil_iff {p = outer_faults offset input} {q = faults_in (top_faults (shift_by offset)) (element_of input)}).0 ((check-answered offset input e).0 h).1).0 in
    let g = ((append-eq-nil_iff {p = early ++ TOO_LONG when is_too_long input}).0 f).0 in
    not-false (is_offset offset) (when_none OFFSET (not (is_offset offset)) ((append-eq-nil_iff {p = early}).0 g).0)

module _ (offset : ℤ) (room : ℕ) (input : List ℕ) where
  module _ (e : Element) (accepted : check offset input ≡ answered e) where
    listing-accepted : listing offset room input ≡ (list_element (shift_by offset) room e unless unlisted e)
    unfolding listing
    listing-accepted = rw (accepted, ((check-answered offset input e).0 accepted).0)

    -- neither an IVL_TS nor a set type
    pub listing-unlisted : is_listed e ≡ false → listing offset room input ≡ refused TYPE
    listing-unlisted l = listing-accepted ∙ element-unlisted (shift_by offset) room e l

    module _ (listed : is_listed e ≡ true) where
      pub listing-listed : listing offset room input ≡ list_element (shift_by offset) room e
      listing-listed = listing-accepted ∙ element-listed (shift_by offset) room e listed

      -- a null set or interval, or an unknown bound
      pub listing_unclear : is_clear (shift_by offset) e ≡ false → listing offset room input ≡ refused UNKNOWN_BOUND
      listing_unclear c = listing-listed ∙ element_unclear (shift_by offset) room e (unclear_set (shift_by offset) e (check_faultless offset input accepted) listed c)

      -- the same, by the set
      pub listing-set-refused : {r : Refusal} → set_of (shift_by offset) e ≡ refused r → listing offset room input ≡ refused UNKNOWN_BOUND
      listing-set-refused h =
          listing-listed ∙ element_unclear (shift_by offset) room e h ∙ ap refused (set-refused (shift_by offset) e (check_faultless offset input accepted) listed h)

      module _ (s : Expression) (known : set_of (shift_by offset) e ≡ answered s) where
        pub listing_too_many : 32 < intervals_written e → listing offset room input ≡ refused TOO_MANY
        listing_too_many l = listing-listed ∙ element_too_many (shift_by offset) room e s known l

        pub listing_no_room : intervals_written e ≤ 32 → room < length (stretches s) → listing offset room input ≡ refused NO_ROOM
        listing_no_room f l = listing-listed ∙ element_no_room (shift_by offset) room e s known f l

        pub listing-answered : intervals_written e ≤ 32 → length (stretches s) ≤ room → listing offset room input ≡ answered (stretches s)
        listing-answered f l = listing-listed ∙ element-listing (shift_by offset) room e s known f l

  module _ (r : Refusal) (faulty : check offset input ≡ refused r) where
    -- refused by the earlier of its own fault and TYPE, where its element has neither type
    pub listing-faulty : {q : Refusal} → first_of (r ∷ faults_in unlisted (element_of input)) ≡ some q → listing offset room input ≡ refused q
    unfolding listing
    listing-faulty h = rw (faulty, h)

    -- and by none that checking does not give
    pub faulty_early : {q : Refusal} → first_of (r ∷ faults_in unlisted (element_of input)) ≡ some q → is_of_record q ≡ true
    faulty_early h = first_passes is_of_record (one_more (check_refusals offset input faulty) (type_passes offset input is_listed)) h

    -- by its own fault where there is no element, where the element has one of the types, or where the fault stands before TYPE
    pub listing-faulty_markup : document input ≡ none → listing offset room input ≡ refused r
    unfolding first_of record_faults
    listing-faulty_markup d = listing-faulty (rw d (first_left r MARKUP least))
      where
        least : rank r ≤ rank MARKUP
        least = ((first-is (record_faults offset input) r).0 ((check-refused offset input r).0 faulty)).1 MARKUP (Memᴰ.append_right (outer_faults offset input) (rw d (Memᴰ.head refl)))

    pub listing-faulty-listed : (e : Element) → document input ≡ some e → is_listed e ≡ true → listing offset room input ≡ refused r
    unfolding first_of
    listing-faulty-listed e d l = listing-faulty (rw (d, l))

    pub listing-faulty_early : rank r ≤ rank TYPE → listing offset room input ≡ refused r
    unfolding first_of
    listing-faulty_early h = go (document input) refl
      where
        go : (o : Option Element) → document input ≡ o → listing offset room input ≡ refused r
        go none d = listing-faulty_markup d
        go (some e) d = elim (is_listed e) as (λ b. is_listed e ≡ b → listing offset room input ≡ refused r)
            [ false ↦ λ l. listing-faulty (rw (d, l) (first_left r TYPE h)) | true ↦ listing-faulty-listed e d ] refl

    -- else by TYPE
    pub listing-faulty-unlisted : (e : Element) → document input ≡ some e → is_listed e ≡ false → rank TYPE ≤ rank r → listing offset room input ≡ refused TYPE
    unfolding first_of
    listing-faulty-unlisted e d l h = listing-faulty (rw (d, l) (first_right r TYPE h))

module _ (offset : ℤ) (input : List ℕ) where
  -- every record is of one of five cases
  pub data Case : Type 0 where
    faulty : (r q : Refusal) → check offset input ≡ refused r → first_of (r ∷ faults_in unlisted (element_of input)) ≡ some q → Case
    other_type : (e : Element) → check offset input ≡ answered e → is_listed e ≡ false → Case
    unclear : (e : Element) → check offset input ≡ answered e → is_listed e ≡ true → is_clear (shift_by offset) e ≡ false → Case
    many : (e : Element) → check offset input ≡ answered e → is_listed e ≡ true → is_clear (shift_by offset) e ≡ true → 32 < intervals_written e → Case
    a_set : (e : Element) → IsSetOfTimes offset input e → Case

  pub case : Case
  unfolding first_of
  case = go (check offset input) refl
    where
      first : (r : Refusal) (rs : List Refusal) → (q : Refusal) × (first_of (r ∷ rs) ≡ some q)
      first r rs = elim (first_of rs) as (λ o. (q : Refusal) × (earlier (some r) o ≡ some q)) [ none ↦ (r, refl) | some p ↦ (_, refl) ]

      clear : (e : Element) → check offset input ≡ answered e → is_listed e ≡ true → is_clear (shift_by offset) e ≡ true → Case
      clear e h l c = elim (dec_le (intervals_written e) 32) [ yes f ↦ a_set e (record { accepted = h; listed = l; clear = c; few = f }) | no f ↦ many e h l c (omega arith) ]

      listed : (e : Element) (b : Bool) → check offset input ≡ answered e → is_listed e ≡ true → is_clear (shift_by offset) e ≡ b → Case
      listed e true h l c = clear e h l c
      listed e false h l c = unclear e h l c

      accepted : (e : Element) (b : Bool) → check offset input ≡ answered e → is_listed e ≡ b → Case
      accepted e true h l = listed e _ h l refl
      accepted e false h l = other_type e h l

      go : (o : Outcome Element) → check offset input ≡ o → Case
      go (answered e) h = accepted e _ h refl
      go (refused r) h = let (q, f) = first r (faults_in unlisted (element_of input)) in faulty r q h f
