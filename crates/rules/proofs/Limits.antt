-- The limits of the rules, for every input: where OFFSET and TOO LONG begin. (`Depth` has how many elements may be open at once, and
-- `ListingPromise` where TOO MANY begins.)
use Prim.Native.Nat.{ℕ, ◌<◌, ◌≤◌}
use mathlib.Core.Path.{◌≡◌, refl, sym, ◌∙◌, ap}
use mathlib.Core.Logic.Iff
use mathlib.Core.Logic.{◌↔◌}
use mathlib.Core.Bool.{Bool, true, false, not}
use mathlib.Core.List.Memᴰ
use mathlib.Core.List.{List, ◌∷◌, ◌++◌, append_assoc}
use mathlib.Core.Option.{Option, none, some}
use native.Mathlib.Omega.{arith}
use borrow.Author.Tests.{ltb-true, lt-ltb, le-ltb, le-leb}
use lib.Dec.{ltb, leb-suc-suc}
use lib.ListN.{length}
use lib.IntN.{ℤ, pos, negsuc}
use lib.Signed.{le_z}
use Rattle.rules.specs.Refusal.{Refusal, OFFSET, TOO_LONG, NOT_UTF_8, MARKUP, TYPE, SHAPE, VALUE, DATE, CLOCK, ZONE, RULE, rank_in, rank, earlier, first_of, answered, refused, faults_in, faults_of, ◌when◌}
use Rattle.rules.specs.Judge.{top_faults}
use Rattle.rules.specs.Timestamp.{read_timestamp}
use Rattle.rules.specs.Utf8.{is_utf8, cut_length}
use Rattle.rules.specs.Check.{is_offset, shift_by, is_too_long, element_of, record_faults, check}
use Rattle.rules.specs.Services.{timing, cutting}
use Rattle.rules.proofs.Tests.{clash}
use Rattle.rules.proofs.Precedence.{first-is, earlier_comm, first_of-append, unless_none, unless_refused, check-refused}
use Rattle.rules.proofs.CheckRefusals.{Pass, pass-append, pass_when, first_passes, read_passes, element-or_markup}

-- agreed offsets are from -840 to 840
pub offset_limit : (z : ℤ) → is_offset z ≡ true ↔ (le_z (negsuc 839) z ≡ true) × (le_z z (pos 840) ≡ true)
offset_limit (pos n) = (λ e. (refl, e), λ h. h.1)
offset_limit (negsuc n) = (λ e. (sym (leb-suc-suc n 839) ∙ e, refl), λ h. leb-suc-suc n 839 ∙ h.0)

-- q stands after r on the ladder
abbrev stands_after : Refusal → Refusal → Bool
stands_after r q = ltb (rank r) (rank q)

module _ (r : Refusal) (b : Bool) (others : List Refusal) (after : Pass (stands_after r) others) where
  -- where all others stand after it, a fault is given exactly if it applies
  first_when : first_of (r when b ++ others) ≡ some r ↔ b ≡ true
  unfolding first_of
  first_when = go b
    where
      least : (o : Option Refusal) → first_of others ≡ o → earlier (some r) o ≡ some r
      least none e = refl
      least (some q) e = rw (le-leb (rank r) (rank q) (omega (arith, ltb-true (rank r) (rank q) (first_passes (stands_after r) after e))))

      go : (b : Bool) → first_of (r when b ++ others) ≡ some r ↔ b ≡ true
      go true = (λ e. refl, λ e. least (first_of others) refl)
      go false = (λ e. absurd (omega (arith, ltb-true (rank r) (rank r) (first_passes (stands_after r) after e))), λ e. clash (cc))

  -- and behind one that stands before it, exactly if it applies and that one does not
  second_when : (p : Refusal) (a : Bool) → rank p < rank r → first_of (p when a ++ (r when b ++ others)) ≡ some r ↔ (a ≡ false) × (b ≡ true)
  second_when p true h = (λ e. absurd (omega (arith, h, ((first-is (p ∷ (r when b ++ others)) r).0 e).1 p (Memᴰ.head refl))), λ (e, f). clash (cc))
  second_when p false h = (λ e. (refl, first_when.0 e), λ (e, f). first_when.1 f)

-- what stands after TOO LONG stands after what does not
later : (r q : Refusal) → rank r ≤ rank TOO_LONG → rank TOO_LONG < rank q → stands_after r q ≡ true
later r q h k = lt-ltb (rank r) (rank q) (omega (arith, h, k))

-- over 16,384 bytes
pub too_long_limit : (input : List ℕ) → is_too_long input ≡ true ↔ 16_384 < length input
too_long_limit input = (ltb-true 16_384 (length input), lt-ltb 16_384 (length input))

not_limit : (b : Bool) → (not b ≡ true ↔ b ≡ false) × (not b ≡ false ↔ b ≡ true)
not_limit true = ((λ e. clash (cc), λ e. clash (cc)), (λ e. refl, λ e. refl))
not_limit false = ((λ e. refl, λ e. refl), (λ e. clash (cc), λ e. clash (cc)))

-- a service that has these two faults and others that stand after them: OFFSET is given exactly if the agreed offset is out of range, and
-- TOO LONG exactly if it is not and the input has over 16,384 bytes
module _ (offset : ℤ) (input : List ℕ) (others : List Refusal) (all-later : (r : Refusal) → rank r ≤ rank TOO_LONG → Pass (stands_after r) others) where
  abbrev faults : List Refusal
  faults = OFFSET when not (is_offset offset) ++ (TOO_LONG when is_too_long input ++ others)

  offset-first : first_of faults ≡ some OFFSET ↔ is_offset offset ≡ false
  unfolding rank_in
  offset-first =
      Iff.trans (first_when OFFSET (not (is_offset offset)) (TOO_LONG when is_too_long input ++ others)
      (pass-append (stands_after OFFSET) (pass_when (stands_after OFFSET) TOO_LONG (is_too_long input) refl) (all-later OFFSET (omega arith))))
      (not_limit (is_offset offset)).0

  length-next : first_of faults ≡ some TOO_LONG ↔ (is_offset offset ≡ true) × (16_384 < length input)
  unfolding rank_in
  length-next =
      let (f, g) = second_when TOO_LONG (is_too_long input) others (all-later TOO_LONG (omega arith)) OFFSET (not (is_offset offset)) (omega arith) in
      let (h, k) = (not_limit (is_offset offset)).1 in
      let (m, n) = too_long_limit input in
      (λ e. (h (f e).0, m (f e).1), λ (a, b). g (k a, n b))

-- checking
module _ (offset : ℤ) (input : List ℕ) where
  inner : List Refusal
  inner = NOT_UTF_8 when not (is_utf8 input) ++ faults_in (top_faults (shift_by offset)) (element_of input)

  record_faults_lem : record_faults offset input ≡ OFFSET when not (is_offset offset) ++ (TOO_LONG when is_too_long input ++ inner)
  unfolding record_faults inner
  record_faults_lem =
      append_assoc (OFFSET when not (is_offset offset) ++ TOO_LONG when is_too_long input) (NOT_UTF_8 when not (is_utf8 input)) (faults_in (top_faults (shift_by offset)) (element_of input))
      ∙ append_assoc (OFFSET when not (is_offset offset)) (TOO_LONG when is_too_long input) inner

  inner_later : (r : Refusal) → rank r ≤ rank TOO_LONG → Pass (stands_after r) inner
  unfolding rank_in inner
  inner_later r h =
      pass-append (stands_after r) (pass_when (stands_after r) NOT_UTF_8 (not (is_utf8 input)) (later r NOT_UTF_8 h (omega arith)))
      (element-or_markup (stands_after r) (later r TYPE h (omega arith)) (later r SHAPE h (omega arith)) (later r VALUE h (omega arith)) (later r DATE h (omega arith))
      (later r CLOCK h (omega arith)) (later r ZONE h (omega arith)) (later r RULE h (omega arith)) (shift_by offset) input (later r MARKUP h (omega arith)))

  pub check-offset_limit : check offset input ≡ refused OFFSET ↔ is_offset offset ≡ false
  check-offset_limit = Iff.trans (rw record_faults_lem at (check-refused offset input OFFSET)) (offset-first offset input inner inner_later)

  pub check-length_limit : check offset input ≡ refused TOO_LONG ↔ (is_offset offset ≡ true) × (16_384 < length input)
  check-length_limit = Iff.trans (rw record_faults_lem at (check-refused offset input TOO_LONG)) (length-next offset input inner inner_later)

-- turning a timestamp into a tick
module _ (offset : ℤ) (text : List ℕ) where
  abbrev unread : List Refusal
  unread = faults_of (read_timestamp (shift_by offset) text)

  unread_later : (r : Refusal) → rank r ≤ rank TOO_LONG → Pass (stands_after r) unread
  unfolding rank_in
  unread_later r h =
      read_passes (stands_after r) (later r VALUE h (omega arith)) (later r DATE h (omega arith)) (later r CLOCK h (omega arith)) (later r ZONE h (omega arith)) (shift_by offset) text

  timing-refused : (r : Refusal) → timing offset text ≡ refused r ↔ first_of (faults offset text unread unread_later) ≡ some r
  unfolding timing
  timing-refused r = Iff.trans (unless_refused (read_timestamp (shift_by offset) text) outer r) (λ e. sym turned ∙ e, λ e. turned ∙ e)
    where
      outer : List Refusal
      outer = OFFSET when not (is_offset offset) ++ TOO_LONG when is_too_long text

      turned : first_of (unread ++ outer) ≡ first_of (faults offset text unread unread_later)
      turned =
          first_of-append unread outer
          ∙ earlier_comm (first_of unread) (first_of outer)
          ∙ sym (first_of-append outer unread)
          ∙ ap first_of (append_assoc (OFFSET when not (is_offset offset)) (TOO_LONG when is_too_long text) unread)

  pub tick-offset_limit : timing offset text ≡ refused OFFSET ↔ is_offset offset ≡ false
  tick-offset_limit = Iff.trans (timing-refused OFFSET) (offset-first offset text unread unread_later)

  pub tick-length_limit : timing offset text ≡ refused TOO_LONG ↔ (is_offset offset ≡ true) × (16_384 < length text)
  tick-length_limit = Iff.trans (timing-refused TOO_LONG) (length-next offset text unread unread_later)

  -- within both limits the answer is what the text is read as
  pub tick-within-limits : is_offset offset ≡ true → length text ≤ 16_384 → timing offset text ≡ read_timestamp (shift_by offset) text
  unfolding timing
  tick-within-limits e h = rw (e, le-ltb 16_384 (length text) h) (unless_none (read_timestamp (shift_by offset) text))

-- cutting a text
pub cut-length_limit : (text : List ℕ) (room : ℕ) → cutting text room ≡ refused TOO_LONG ↔ 16_384 < length text
unfolding cutting rank_in
cut-length_limit text room =
    Iff.trans (unless_refused (answered (cut_length room text)) (TOO_LONG when is_too_long text ++ NOT_UTF_8 when not (is_utf8 text)) TOO_LONG)
    (Iff.trans (first_when TOO_LONG (is_too_long text) (NOT_UTF_8 when not (is_utf8 text)) (pass_when (stands_after TOO_LONG) NOT_UTF_8 (not (is_utf8 text)) refl)) (too_long_limit text))
