-- The answers of printing, case by case; and what listing gives is proper.
use Prim.Native.Nat.{ℕ, zero, suc, ◌+◌, ◌-◌, ◌*◌, ◌/◌, ◌%◌, ◌^◌, ◌≤◌, ◌<◌}
use mathlib.Core.Path.{◌≡◌, refl, sym, ◌∙◌, ap}
use mathlib.Core.Logic.{◌⊎◌, inl, inr, ◌↔◌}
use mathlib.Core.Bool.{Bool, true, false, not, ◌||◌}
use mathlib.Core.List.{List, [], ◌∷◌, ◌++◌, flat_map}
use native.Mathlib.Omega.{arith}
use native.Mathlib.Decide.{dec_le}
use borrow.Author.Tests.{lt-ltb, le-ltb, eqb-true, not-false}
use lib.Dec.{ltb, eqb}
use lib.ListN.{length}
use lib.IntN.{ℤ, pos, negsuc}
use Rattle.rules.specs.Basics.{every}
use Rattle.rules.specs.Refusal.{NOT_WRITABLE, NO_ROOM, rank_in, first_of, answered, refused, ◌unless◌, ◌when◌}
use Rattle.rules.specs.Markup.{Element}
use Rattle.rules.specs.Timestamp.{before_start}
use Rattle.rules.specs.Check.{is_offset, shift_by}
use Rattle.rules.specs.Sets.{Interval, Expression}
use Rattle.rules.specs.Stretches.{stretches}
use Rattle.rules.specs.Listing.{set_of, list_numbers}
use Rattle.rules.specs.Services.{low_bytes, eight_bytes, room_of, listing, timing}
use Rattle.rules.specs.ListingPromise.{fits, IsSetOfTimes}
use Rattle.rules.specs.LentLists.{is_byte, numbers_in, is_improper, is_improper_list, listed}
use Rattle.rules.specs.Dates.{years_end, timestamp_text}
use Rattle.rules.specs.Printing.{record_text, is_writable_stretch, is_unwritable, printing}
use Rattle.rules.proofs.Tests.{clash, neither, every_append}
use Rattle.rules.proofs.Dates.{timestamp_of_tick}
use Rattle.rules.proofs.Ticks.{shift_by-most}
use Rattle.rules.proofs.Canonical.{Canonical}
use Rattle.rules.proofs.Drawing.{stretches-canonical}
use Rattle.rules.proofs.Counting.{stretches-at-most}
use Rattle.rules.proofs.Members.{set-intervals, clear-set}
use Rattle.rules.proofs.Fitting.{list-fits}
use Rattle.rules.proofs.ListingCases.{check_faultless, check-offset, listing-unlisted, listing_unclear, listing_too_many, listing_no_room, listing-answered, listing-faulty, faulty, other_type, unclear, many, a_set, case}
use Rattle.rules.proofs.ListingPromise.{numbers-length, bytes-length}
use Rattle.rules.proofs.LentLists.{numbers-written, numbers-read, numbers_from-length}
use Rattle.rules.proofs.ProperLists.{IsProper, proper, stretches_back, not_improper}
use Rattle.rules.proofs.Pieces.{timestamp-length}
use Rattle.rules.proofs.Printing.{IsPrintable, record_listed}

-- a lent list that can be written
module _ (list : List ℕ) (w : is_unwritable list ≡ false) where
  is-proper : is_improper_list list ≡ false
  is-proper = (neither (is_improper_list list) (not (every is_writable_stretch (listed list))) w).0

  whole_numbers : length list % 8 ≡ 0
  whole_numbers = eqb-true (length list % 8) 0 (not-false _ (neither (not (eqb (length list % 8) 0)) (is_improper (numbers_in list)) is-proper).0)

  the_numbers : IsProper (numbers_in list) (listed list)
  the_numbers = proper (numbers_in list) (neither (not (eqb (length list % 8) 0)) (is_improper (numbers_in list)) is-proper).1

  pub is_printable : IsPrintable (listed list)
  is_printable = record {
    few = the_numbers.few;
    canonical = the_numbers.canonical;
    writable = not-false _ (neither (is_improper_list list) (not (every is_writable_stretch (listed list))) w).1;
  }

  -- its stretches are listed as its bytes
  pub list-bytes : every is_byte list ≡ true → flat_map eight_bytes (list_numbers (listed list)) ≡ list
  list-bytes b = ap (flat_map eight_bytes) the_numbers.numbers_are ∙ numbers-read list whole_numbers b

  pub listed-length : 32 * length (listed list) ≡ length list
  listed-length =
      omega (arith, numbers-length (listed list), ap length the_numbers.numbers_are, numbers_from-length (length list / 8) list, whole_numbers)

  -- reading the record back lists the same stretches
  pub listed_back : (offset : ℤ) (lent : List ℕ) → is_offset offset ≡ true → length list ≤ length lent
      → listing offset (room_of lent) (record_text (listed list)) ≡ answered (listed list)
  listed_back offset lent o l = record_listed (listed list) is_printable offset (room_of lent) o (omega (arith, listed-length))

-- the timestamp service reads a printed timestamp as its tick
pub timing_of_tick : (offset : ℤ) (t : ℕ) → is_offset offset ≡ true → t < years_end
    → timing offset (timestamp_text (pos t)) ≡ answered (record { start = t + before_start; precision = 18; next = t + before_start + 1 })
unfolding timing first_of
timing_of_tick offset t o l = rw (timestamp_of_tick (shift_by offset) t l, o, le-ltb 16_384 (length (timestamp_text (pos t))) (omega (arith, timestamp-length t)))

-- what listing gives
pub listing_gives : (offset : ℤ) (room : ℕ) (input : List ℕ) (ss : List Interval) → listing offset room input ≡ answered ss
    → (e : Element) × (s : Expression) × IsSetOfTimes offset input e × (set_of (shift_by offset) e ≡ answered s) × (stretches s ≡ ss)
listing_gives offset room input ss h = elim (case offset input) [
  | faulty r q c f ↦ clash (cc (listing-faulty offset room input r c f))
  | other_type e c l ↦ clash (cc (listing-unlisted offset room input e c l))
  | unclear e c l u ↦ clash (cc (listing_unclear offset room input e c l u))
  | many e c l u m ↦
      let (s, known) = clear-set (shift_by offset) e (check_faultless offset input c) l u in
      clash (cc (listing_too_many offset room input e c l s known m))
  | a_set e k ↦
      let (s, known) = clear-set (shift_by offset) e (check_faultless offset input k.accepted) k.listed k.clear in
      elim (dec_le (length (stretches s)) room) [
        | yes l ↦ (e, s, k, known, cc (listing-answered offset room input e k.accepted k.listed s known k.few l))
        | no l ↦ clash (cc (listing_no_room offset room input e k.accepted k.listed s known k.few (omega arith)))
      ]
]

-- it is never improper, and it is read as what was listed
proper-list : (ss : List Interval) → length ss ≤ 32 → Canonical ss → every fits (list_numbers ss) ≡ true
    → (is_improper_list (flat_map eight_bytes (list_numbers ss)) ≡ false) × (listed (flat_map eight_bytes (list_numbers ss)) ≡ ss)
proper-list ss l c f =
    let n : length (flat_map eight_bytes (list_numbers ss)) % 8 ≡ 0 = omega (arith, bytes-length (list_numbers ss)) in
    let e = numbers-written (list_numbers ss) f in
    (rw (n, e) (not_improper ss l c), rw e (stretches_back ss))

pub listing-proper : (offset : ℤ) (room : ℕ) (input : List ℕ) (ss : List Interval) → listing offset room input ≡ answered ss
    → (is_improper_list (flat_map eight_bytes (list_numbers ss)) ≡ false) × (listed (flat_map eight_bytes (list_numbers ss)) ≡ ss)
listing-proper offset room input ss h =
    let (e, s, k, known, z) = listing_gives offset room input ss h in
    let as_many = set-intervals (shift_by offset) e (check_faultless offset input k.accepted) k.listed known in
    rw z at (proper-list (stretches s) (omega (arith, stretches-at-most s, k.few)) (stretches-canonical s)
    (list-fits (shift_by offset) (shift_by-most offset (check-offset offset input k.accepted)) e known))

-- and all of it are bytes
pub low-bytes : (n k : ℕ) → every is_byte (low_bytes n k) ≡ true
unfolding low_bytes every
low-bytes zero k = refl
low-bytes (suc n) k = rw (lt-ltb (k % 256) 256 (omega arith), low-bytes n (k / 256))

eight_bytes_lem : (z : ℤ) → every is_byte (eight_bytes z) ≡ true
eight_bytes_lem (pos n) = low-bytes 8 n
eight_bytes_lem (negsuc n) = low-bytes 8 (2 ^ 64 - suc n)

pub written-bytes : (zs : List ℤ) → every is_byte (flat_map eight_bytes zs) ≡ true
unfolding flat_map every
written-bytes [] = refl
written-bytes (z ∷ zs) = every_append is_byte (eight_bytes z) (flat_map eight_bytes zs) (eight_bytes_lem z) (written-bytes zs)

-- what can't be written is improper or has a tick outside years 0001 to 9999
pub unwritable_is : (list : List ℕ) → is_unwritable list ≡ true ↔ (is_improper_list list ≡ true) ⊎ (every is_writable_stretch (listed list) ≡ false)
unwritable_is list = go (is_improper_list list) (every is_writable_stretch (listed list))
  where
    go : (a b : Bool) → (a || not b) ≡ true ↔ (a ≡ true) ⊎ (b ≡ false)
    go true b = (λ e. inl refl, λ h. refl)
    go false true = (λ e. clash (cc), λ h. elim h [ inl e ↦ e | inr e ↦ sym e ])
    go false false = (λ e. inr refl, λ h. refl)

-- a list can't be written, or its record doesn't fit a room, or it does
pub data PrintingCase (list : List ℕ) (room : ℕ) : Type 0 where
  unwritable : is_unwritable list ≡ true → PrintingCase list room
  full : is_unwritable list ≡ false → room < length (record_text (listed list)) → PrintingCase list room
  fitting : is_unwritable list ≡ false → length (record_text (listed list)) ≤ room → PrintingCase list room

module _ (list : List ℕ) (room : ℕ) where
  pub printing_case : PrintingCase list room
  printing_case = go (is_unwritable list) refl
    where
      go : (b : Bool) → is_unwritable list ≡ b → PrintingCase list room
      go true e = unwritable e
      go false e = elim (dec_le (length (record_text (listed list))) room) [ yes l ↦ fitting e l | no l ↦ full e (omega arith) ]

  pub printing_unwritable : is_unwritable list ≡ true → printing list room ≡ refused NOT_WRITABLE
  unfolding printing first_of rank_in
  printing_unwritable h = rw h (go (ltb room (length (record_text (listed list)))))
    where
      go : (full : Bool) → (answered (record_text (listed list)) unless NOT_WRITABLE ∷ [] ++ NO_ROOM when full) ≡ refused NOT_WRITABLE
      go true = refl
      go false = refl

  pub printing_no_room : is_unwritable list ≡ false → room < length (record_text (listed list)) → printing list room ≡ refused NO_ROOM
  unfolding printing first_of rank_in
  printing_no_room w l = rw (w, lt-ltb room (length (record_text (listed list))) l)

  pub printing-answered : is_unwritable list ≡ false → length (record_text (listed list)) ≤ room → printing list room ≡ answered (record_text (listed list))
  unfolding printing first_of
  printing-answered w l = rw (w, le-ltb room (length (record_text (listed list))) l)
