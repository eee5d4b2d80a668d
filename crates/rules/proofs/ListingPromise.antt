-- Listing a set of times keeps its promise.
use Prim.Native.Nat.{ℕ, ◌*◌, ◌/◌, ◌%◌, ◌^◌, ◌≤◌, ◌<◌}
use mathlib.Core.Path.{◌≡◌, refl, sym, ◌∙◌, ap}
use mathlib.Core.Bool.{true, false}
use mathlib.Core.List.{List, [], ◌∷◌, flat_map}
use mathlib.Core.Option.{some}
use native.Mathlib.Decide.{dec_le}
use native.Mathlib.Omega.{arith}
use lib.ListN.{length, take, drop, length-append, length-drop}
use lib.Seq.{take_at, drop_at}
use lib.IntN.{ℤ, pos, negsuc}
use Rattle.rules.specs.Basics.{every}
use Rattle.rules.specs.Refusal.{Refusal, OFFSET, TOO_LONG, NOT_UTF_8, MARKUP, TYPE, SHAPE, VALUE, DATE, CLOCK, ZONE, RULE, UNKNOWN_BOUND, TOO_MANY, NOT_WRITABLE, NO_ROOM, NO_ROW, TOTAL, DAMAGED, NO_DESK, DAY_FULL, number, rank_in, rank, first_of, answered, refused, faults_in}
use Rattle.rules.specs.Markup.{Element}
use Rattle.rules.specs.Check.{shift_by, element_of, check}
use Rattle.rules.specs.Sets.{Bound, unbounded, open_at, closed_at, Interval, Expression}
use Rattle.rules.specs.Stretches.{stretches}
use Rattle.rules.specs.Listing.{set_of, intervals_written, unlisted, bound_numbers, list_numbers}
use Rattle.rules.specs.Services.{listing, low_bytes, eight_bytes, overwrite, room_of, list_answer, list_after}
use Rattle.rules.specs.ListingPromise.{is_clear, is_listed, IsSetOfTimes, fits, Refuses, Lists, PromiseOfSet, ListingPromise}
use Rattle.rules.proofs.Tests.{clash}
use Rattle.rules.proofs.Precedence.{number_injective}
use Rattle.rules.proofs.Ticks.{shift_by-most}
use Rattle.rules.proofs.Fitting.{list-fits}
use Rattle.rules.proofs.Meaning.{set-meaning}
use Rattle.rules.proofs.Unique.{stretch_listed}
use Rattle.rules.proofs.Drawing.{stretches_are, is-stretches}
use Rattle.rules.proofs.Counting.{stretches-within}
use Rattle.rules.proofs.Members.{set-intervals, clear-set}
use Rattle.rules.proofs.CheckRefusals.{of_record}
use Rattle.rules.proofs.ListingCases.{check_faultless, check-offset, listing-unlisted, listing_unclear, listing_too_many, listing_no_room, listing-answered, listing-faulty, faulty_early, faulty, other_type, unclear, many, a_set, case}

-- refusals are told from one another, and from an answer, by the lowest eight bits
pub small : (r : Refusal) → (1 ≤ number r) × (number r ≤ 255)
small OFFSET = omega arith
small TOO_LONG = omega arith
small NOT_UTF_8 = omega arith
small MARKUP = omega arith
small TYPE = omega arith
small SHAPE = omega arith
small VALUE = omega arith
small DATE = omega arith
small CLOCK = omega arith
small ZONE = omega arith
small RULE = omega arith
small UNKNOWN_BOUND = omega arith
small TOO_MANY = omega arith
small NOT_WRITABLE = omega arith
small NO_ROOM = omega arith
small NO_ROW = omega arith
small TOTAL = omega arith
small DAMAGED = omega arith
small NO_DESK = omega arith
small DAY_FULL = omega arith

pub low_bits : (r : Refusal) → (number r % 2 ^ 8 ≡ number r) × (number r / 2 ^ 8 ≡ 0)
low_bits r = omega (arith, small r)

pub count_bits : (n : ℕ) → (n * 2 ^ 8 % 2 ^ 8 ≡ 0) × (n * 2 ^ 8 / 2 ^ 8 ≡ n)
count_bits n = omega arith

pub eight_length : (z : ℤ) → length (eight_bytes z) ≡ 8
unfolding low_bytes
eight_length (pos n) = refl
eight_length (negsuc n) = refl

pub bytes-length : (zs : List ℤ) → length (flat_map eight_bytes zs) ≡ 8 * length zs
unfolding flat_map
bytes-length [] = refl
bytes-length (z ∷ zs) = rw length-append (omega (arith, eight_length z, bytes-length zs))

bound_length : (b : Bound) → length (bound_numbers b) ≡ 2
bound_length unbounded = refl
bound_length (open_at t) = refl
bound_length (closed_at t) = refl

pub numbers-length : (ss : List Interval) → length (list_numbers ss) ≡ 4 * length ss
unfolding flat_map
numbers-length [] = refl
numbers-length (s ∷ ss) = simp length-append (omega (arith, bound_length s.low, bound_length s.high, numbers-length ss))

pub list_length : (ss : List Interval) → length (flat_map eight_bytes (list_numbers ss)) ≡ 32 * length ss
list_length ss = omega (arith, bytes-length (list_numbers ss), numbers-length ss)

module _ (old new : List ℕ) (n : ℕ) (long : length new ≡ n) (room : n ≤ length old) where
  pub overwrite-begins : take n (overwrite old new) ≡ new
  overwrite-begins = take_at new (drop (length new) old) n long

  pub overwrite-rest : drop n (overwrite old new) ≡ drop n old
  overwrite-rest = drop_at new (drop (length new) old) n long ∙ rw long refl

  pub overwrite-length : length (overwrite old new) ≡ length old
  overwrite-length = simp (length-append, length-drop) (omega arith)

module _ (offset : ℤ) (record' list : List ℕ) where
  abbrev answer : ℕ
  answer = list_answer offset record' list

  abbrev after : List ℕ
  after = list_after offset record' list

  refuses : (r : Refusal) → listing offset (room_of list) record' ≡ refused r → Refuses offset record' answer list after r
  refuses r h = record { number_given = rw h (low_bits r).0; no_count = rw h (low_bits r).1; unchanged = rw h }

  lists : (ss : List Interval) → listing offset (room_of list) record' ≡ answered ss → length ss ≤ room_of list → every fits (list_numbers ss) ≡ true → Lists offset record' answer list after ss
  lists ss h l f =
      let new = flat_map eight_bytes (list_numbers ss) in
      let room : 32 * length ss ≤ length list = omega arith in
      record {
        number_given = rw h (count_bits (length ss)).0;
        count = rw h (count_bits (length ss)).1;
        begins = rw h (overwrite-begins list new (32 * length ss) (list_length ss) room);
        fit = f;
        unchanged = rw h (overwrite-rest list new (32 * length ss) (list_length ss) room);
        same_length = rw h (overwrite-length list new (32 * length ss) (list_length ss) room);
      }

  -- one refusal at most is given
  one_refusal : {r q : Refusal} → Refuses offset record' answer list after r → Refuses offset record' answer list after q → r ≡ q
  one_refusal {r} {q} a b = number_injective r q (sym a.number_given ∙ b.number_given)

  not-both : {r : Refusal} {ss : List Interval} → Refuses offset record' answer list after r → Lists offset record' answer list after ss → ⊥
  not-both {r} a b = omega (arith, small r, a.number_given, b.number_given)

  module _ (e : Element) (h : IsSetOfTimes offset record' e) (s : Expression) (known : set_of (shift_by offset) e ≡ answered s) where
    full : room_of list < length (stretches s) → Refuses offset record' answer list after NO_ROOM
    full l = refuses NO_ROOM (listing_no_room offset (room_of list) record' e h.accepted h.listed s known h.few l)

    enough : length (stretches s) ≤ room_of list → Lists offset record' answer list after (stretches s)
    enough l = lists (stretches s) (listing-answered offset (room_of list) record' e h.accepted h.listed s known h.few l) l
        (list-fits (shift_by offset) (shift_by-most offset (check-offset offset record' h.accepted)) e known)

    promise_of : PromiseOfSet offset record' answer list after e
    promise_of = record {
      set = s;
      written = known;
      as_many = set-intervals (shift_by offset) e (check_faultless offset record' h.accepted) h.listed known;
      meaning = λ x. set-meaning (shift_by offset) x e known;
      stretches = stretches s;
      are_stretches = stretches_are s;
      every_one = stretch_listed (stretches_are s);
      no_other = λ ss a. is-stretches s a;
      at_most = stretches-within (shift_by offset) e known;
      no_room = (λ a. elim (dec_le (length (stretches s)) (room_of list)) [ yes l ↦ absurd (not-both a (enough l)) | no l ↦ omega arith ], full);
      room = enough;
    }

  promise_of_set : (e : Element) → IsSetOfTimes offset record' e → PromiseOfSet offset record' answer list after e
  promise_of_set e h =
      let (s, known) = clear-set (shift_by offset) e (check_faultless offset record' h.accepted) h.listed h.clear in
      promise_of e h s known

  -- a set of times is refused by NO ROOM alone
  set_refusal : (e : Element) → IsSetOfTimes offset record' e → {r : Refusal} → Refuses offset record' answer list after r → r ≡ NO_ROOM
  set_refusal e h {r} a = go (promise_of_set e h)
    where
      go : PromiseOfSet offset record' answer list after e → r ≡ NO_ROOM
      go p = elim (dec_le (length p.stretches) (room_of list)) [ yes l ↦ absurd (not-both a (p.room l)) | no l ↦ one_refusal a (p.no_room.1 (omega arith)) ]

  -- what the four cases give that are no sets of times
  gives_faulty : (r q : Refusal) → check offset record' ≡ refused r → first_of (r ∷ faults_in unlisted (element_of record')) ≡ some q → Refuses offset record' answer list after q
  gives_faulty r q c f = refuses q (listing-faulty offset (room_of list) record' r c f)

  gives_type : (e : Element) → check offset record' ≡ answered e → is_listed e ≡ false → Refuses offset record' answer list after TYPE
  gives_type e c l = refuses TYPE (listing-unlisted offset (room_of list) record' e c l)

  gives_unknown : (e : Element) → check offset record' ≡ answered e → is_listed e ≡ true → is_clear (shift_by offset) e ≡ false → Refuses offset record' answer list after UNKNOWN_BOUND
  gives_unknown e c l u = refuses UNKNOWN_BOUND (listing_unclear offset (room_of list) record' e c l u)

  gives_many : (e : Element) → check offset record' ≡ answered e → is_listed e ≡ true → is_clear (shift_by offset) e ≡ true → 32 < intervals_written e
      → Refuses offset record' answer list after TOO_MANY
  gives_many e c l u m =
      let (s, known) = clear-set (shift_by offset) e (check_faultless offset record' c) l u in
      refuses TOO_MANY (listing_too_many offset (room_of list) record' e c l s known m)

  -- a refusal after RULE is none of the record's own
  not-faulty : (r : Refusal) {q p : Refusal} → check offset record' ≡ refused r → first_of (r ∷ faults_in unlisted (element_of record')) ≡ some q
      → rank RULE < rank p → Refuses offset record' answer list after p → ⊥
  not-faulty r {q} {p} c f l a = omega (arith, of_record _ (faulty_early offset (room_of list) record' r c f), ap rank (one_refusal (gives_faulty r q c f) a))

  pub listing_promise : ListingPromise offset record' (list_answer offset record' list) list (list_after offset record' list)
  unfolding rank_in
  listing_promise = record {
    sets = promise_of_set;
    others = λ h. elim (case offset record') [
      | faulty r q c f ↦ (q, gives_faulty r q c f, omega (arith, of_record q (faulty_early offset (room_of list) record' r c f)))
      | other_type e c l ↦ (TYPE, gives_type e c l, omega arith)
      | unclear e c l u ↦ (UNKNOWN_BOUND, gives_unknown e c l u, omega arith)
      | many e c l u m ↦ (TOO_MANY, gives_many e c l u m, omega arith)
      | a_set e s ↦ absurd (h e s)
    ];
    faulty = gives_faulty;
    other_type = gives_type;
    unknown_bound = (
      λ a. elim (case offset record') [
        | faulty r q c f ↦ absurd (not-faulty r c f (omega arith) a)
        | other_type e c l ↦ clash (cc (one_refusal a (gives_type e c l)))
        | unclear e c l u ↦ (e, c, l, u)
        | many e c l u m ↦ clash (cc (one_refusal a (gives_many e c l u m)))
        | a_set e s ↦ clash (cc (set_refusal e s a))
      ],
      λ (e, c, l, u). gives_unknown e c l u,
    );
    too_many = (
      λ a. elim (case offset record') [
        | faulty r q c f ↦ absurd (not-faulty r c f (omega arith) a)
        | other_type e c l ↦ clash (cc (one_refusal a (gives_type e c l)))
        | unclear e c l u ↦ clash (cc (one_refusal a (gives_unknown e c l u)))
        | many e c l u m ↦ (e, c, l, u, m)
        | a_set e s ↦ clash (cc (set_refusal e s a))
      ],
      λ (e, c, l, u, m). gives_many e c l u m,
    );
  }
