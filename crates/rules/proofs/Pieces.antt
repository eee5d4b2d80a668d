-- The length of a record: 31 bytes around the terms and 31 of each term, and the bytes of each bound with its flag.
use Prim.Native.Nat.{ℕ, ◌+◌, ◌*◌, ◌≤◌}
use mathlib.Core.Path.{◌≡◌, refl}
use mathlib.Core.Bool.{true}
use mathlib.Core.List.{List, [], ◌∷◌, ◌++◌, flat_map}
use native.Mathlib.Omega.{arith}
use borrow.Author.Tests.{lt-ltb}
use lib.Dec.{ltb}
use lib.ListN.{length, length-append}
use lib.IntN.{pos, negsuc}
use Rattle.rules.specs.Basics.{every, bytes}
use Rattle.rules.specs.Invariants.{Side, low, high}
use Rattle.rules.specs.Sets.{Bound, unbounded, open_at, closed_at, Interval}
use Rattle.rules.specs.Dates.{years_end, date_text, clock_text, timestamp_text}
use Rattle.rules.specs.Printing.{flag_text, bound_text, term_text, written, record_text, is_writable_bound, is_writable_stretch}
use Rattle.rules.proofs.Tests.{clash, both_true, every_true}
use Rattle.rules.proofs.Digits.{digits_of-length}
use Rattle.rules.proofs.Dates.{years-end}

pub date-length : (days : ℕ) → length (date_text days) ≡ 8
unfolding date_text
date-length days = simp (length-append, digits_of-length)

pub clock-length : (t : ℕ) → length (clock_text t) ≡ 11
unfolding clock_text
clock-length t = simp (length-append, digits_of-length)

pub timestamp-length : (t : ℕ) → length (timestamp_text (pos t)) ≡ 24
timestamp-length t = simp (length-append, date-length, clock-length)

abbrev pub low_size : Bound → ℕ
low_size unbounded = 24
low_size (open_at t) = 57
low_size (closed_at t) = 56

abbrev pub high_size : Bound → ℕ
high_size unbounded = 25
high_size (open_at t) = 59
high_size (closed_at t) = 58

-- a bound at a tick, open or closed
valued-length : (side : Side) (t : ℕ) → (length (bound_text side (open_at (pos t))) ≡ 36 + length side.child) × (length (bound_text side (closed_at (pos t))) ≡ 36 + length side.child)
unfolding bound_text
valued-length side t = let e = sum side.child (timestamp_text (pos t)) (timestamp-length t) in (e, e)
  where
    sum : (n v : List ℕ) → length v ≡ 24 → length (bytes "<" ++ n ++ bytes " value=\"" ++ v ++ bytes "\"/>") ≡ 36 + length n
    sum n v e = simp length-append (omega arith)

pub low-length : (b : Bound) → is_writable_bound b ≡ true → length (flag_text low b) + length (bound_text low b) ≡ low_size b
unfolding flag_text
low-length unbounded h = unfold bound_text in refl
low-length (open_at (pos t)) h = omega (arith, valued-length low t)
low-length (open_at (negsuc t)) h = clash (cc)
low-length (closed_at (pos t)) h = omega (arith, valued-length low t)
low-length (closed_at (negsuc t)) h = clash (cc)

pub high-length : (b : Bound) → is_writable_bound b ≡ true → length (flag_text high b) + length (bound_text high b) ≡ high_size b
unfolding flag_text
high-length unbounded h = unfold bound_text in refl
high-length (open_at (pos t)) h = omega (arith, valued-length high t)
high-length (open_at (negsuc t)) h = clash (cc)
high-length (closed_at (pos t)) h = omega (arith, valued-length high t)
high-length (closed_at (negsuc t)) h = clash (cc)

pub term_length : (s : Interval) → is_writable_stretch s ≡ true → length (term_text s) ≡ 31 + low_size s.low + high_size s.high
unfolding term_text
term_length s h =
    let (a, b) = both_true (is_writable_bound s.low) (is_writable_bound s.high) h in
    omega (arith, sum (flag_text low s.low) (flag_text high s.high) (bound_text low s.low) (bound_text high s.high), low-length s.low a, high-length s.high b)
  where
    sum : (a b c d : List ℕ) → length (bytes "<term xsi:type=\"IVL_TS\"" ++ a ++ b ++ bytes ">" ++ c ++ d ++ bytes "</term>")
        ≡ 31 + (length a + length c) + (length b + length d)
    sum a b c d = simp length-append (omega arith)

size-most : (l h : Bound) → (low_size l ≤ 57) × (high_size h ≤ 59)
size-most l h = (low-most l, high-most h)
  where
    low-most : (b : Bound) → low_size b ≤ 57
    low-most unbounded = omega arith
    low-most (open_at t) = omega arith
    low-most (closed_at t) = omega arith

    high-most : (b : Bound) → high_size b ≤ 59
    high-most unbounded = omega arith
    high-most (open_at t) = omega arith
    high-most (closed_at t) = omega arith

terms_length : (ss : List Interval) → every is_writable_stretch ss ≡ true → length (flat_map term_text ss) ≤ 147 * length ss
unfolding flat_map
terms_length [] h = omega arith
terms_length (s ∷ ss) h =
    let (a, b) = every_true is_writable_stretch s ss h in
    omega (arith, length-append (term_text s) (flat_map term_text ss), term_length s a, size-most s.low s.high, terms_length ss b)

pub written-length : (ss : List Interval) → length ss ≤ 32 → (1 ≤ length (written ss)) × (length (written ss) ≤ 32)
written-length [] h = omega arith
written-length (s ∷ ss) h = omega arith

pub written_writable : (ss : List Interval) → every is_writable_stretch ss ≡ true → every is_writable_stretch (written ss) ≡ true
unfolding every
written_writable [] h = let z : ltb 0 years_end ≡ true = lt-ltb 0 years_end (omega (arith, years-end)) in rw z
written_writable (s ∷ ss) h = h

pub record_length : (ss : List Interval) → length (record_text ss) ≡ 31 + length (flat_map term_text (written ss))
unfolding record_text
record_length ss = sum (flat_map term_text (written ss))
  where
    sum : (inner : List ℕ) → length (bytes "<stay xsi:type=\"QSU_TS\">" ++ inner ++ bytes "</stay>") ≡ 31 + length inner
    sum inner = simp length-append (omega arith)

-- a record of at most 32 stretches is never longer than 4,735 bytes
pub record_short : (ss : List Interval) → length ss ≤ 32 → every is_writable_stretch ss ≡ true → length (record_text ss) ≤ 4_735
record_short ss h w = omega (arith, record_length ss, terms_length (written ss) (written_writable ss w), written-length ss h)
