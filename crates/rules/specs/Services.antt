-- 01-scope.md, "What the box reads" and the last sentences of "The refusal ladder": the five services, and their answers as they
-- travel to C.
use Rattle.std.specs.Prelude.{ℕ, zero, suc, ◌+◌, ◌-◌, ◌*◌, ◌/◌, ◌%◌, ◌^◌, not, length, drop, ℤ, pos, negsuc}
use mathlib.Core.List.{List, [], ◌∷◌, ◌++◌, flat_map}
use Rattle.rules.specs.Basics.{if_some}
use Rattle.rules.specs.Refusal.{Refusal, OFFSET, TOO_LONG, NOT_UTF_8, TYPE, number, Outcome, answered, refused, faults_in, ◌unless◌, ◌when◌, ◌and_then◌}
use Rattle.rules.specs.Utf8.{is_utf8, cut_length}
use Rattle.rules.specs.Markup.{Element}
use Rattle.rules.specs.Timestamp.{Moment, read_timestamp, tick_of}
use Rattle.rules.specs.Check.{is_offset, shift_by, is_too_long, element_of, check}
use Rattle.rules.specs.Sets.{Interval}
use Rattle.rules.specs.Listing.{unlisted, list_element, list_numbers}
use Rattle.rules.specs.Comparison.{Answer, Yes, No, Unknown, comparer_for, or_unknown}

-- bits 0 to 7 are the refusal's number, 0 for accepted; bits 8 and up are the result, 0 after a refusal
abbrev pub packed : {A : Type 0} → (A → ℕ) → Outcome A → ℕ
packed result (answered a) = result a * 2 ^ 8
packed result (refused r) = number r

-- lent memory afterwards; a refusal changes none
abbrev pub lent_after : {A B : Type 0} → (A → B) → Outcome A → (before : B) → B
lent_after f (answered a) before = f a
lent_after f (refused r) before = before

-- check a record: nothing but the number
abbrev pub check_answer : (offset : ℤ) → List ℕ → ℕ
check_answer offset record' = packed (λ e. 0) (check offset record')

-- compare two records: an answer, or a refusal that names which
pub data Compared : Type 0 where
  compared : Answer → Compared
  refused_first refused_second : Refusal → Compared

-- the first is checked fully, then the second, then the types
abbrev pub compare_checked : (shift : ℕ) → Outcome Element → Outcome Element → Compared
compare_checked shift (refused r) b = refused_first r
compare_checked shift (answered a) (refused r) = refused_second r
compare_checked shift (answered a) (answered b) = if_some (comparer_for a b) (λ f. compared (or_unknown f shift a b)) (refused_second TYPE)

unfoldable pub comparison : (offset : ℤ) → (first second : List ℕ) → Compared
comparison offset first second = compare_checked (shift_by offset) (check offset first) (check offset second)

abbrev pub answer_number : Answer → ℕ
answer_number Yes = 1
answer_number No = 2
answer_number Unknown = 3

-- bits 8 to 15: which record is refused; bits 16 to 23: the answer
abbrev pub compared_number : Compared → ℕ
compared_number (compared a) = answer_number a * 2 ^ 16
compared_number (refused_first r) = number r + 1 * 2 ^ 8
compared_number (refused_second r) = number r + 2 * 2 ^ 8

abbrev pub compare_answer : (offset : ℤ) → (first second : List ℕ) → ℕ
compare_answer offset first second = compared_number (comparison offset first second)

-- list a set of times: its stretches
unfoldable pub listing : (offset : ℤ) → (room : ℕ) → List ℕ → Outcome (List Interval)
listing offset room record' = (check offset record' and_then list_element (shift_by offset) room) unless faults_in unlisted (element_of record')

-- the n lowest bytes of a number, lowest first
unfoldable pub low_bytes : (n : ℕ) → ℕ → List ℕ
low_bytes zero k = []
low_bytes (suc n) k = k % 256 ∷ low_bytes n (k / 256)

-- a number in eight bytes, two's complement
abbrev pub eight_bytes : ℤ → List ℕ
eight_bytes (pos n) = low_bytes 8 n
eight_bytes (negsuc n) = low_bytes 8 (2 ^ 64 - suc n)

-- what lies beyond the written part stays unchanged
abbrev pub overwrite : (old new : List ℕ) → List ℕ
overwrite old new = new ++ drop (length new) old

-- the stretches that a list of so many bytes has room for: eight bytes a number, four numbers a stretch
abbrev pub room_of : List ℕ → ℕ
room_of list = length list / 32

-- bits 8 and up: the count of stretches
abbrev pub list_answer : (offset : ℤ) → List ℕ → (list : List ℕ) → ℕ
list_answer offset record' list = packed length (listing offset (room_of list) record')

abbrev pub list_after : (offset : ℤ) → List ℕ → (list : List ℕ) → List ℕ
list_after offset record' list = lent_after (λ ss. overwrite list (flat_map eight_bytes (list_numbers ss))) (listing offset (room_of list) record') list

-- turn a timestamp into a tick: only OFFSET, TOO LONG, VALUE, DATE, CLOCK and ZONE are given
unfoldable pub timing : (offset : ℤ) → List ℕ → Outcome Moment
timing offset text = read_timestamp (shift_by offset) text unless OFFSET when not (is_offset offset) ++ TOO_LONG when is_too_long text

-- bits 8 to 15: the precision
abbrev pub tick_answer : (offset : ℤ) → List ℕ → ℕ
tick_answer offset text = packed (λ m. m.precision) (timing offset text)

abbrev pub tick_after : (offset : ℤ) → List ℕ → (before : ℤ) → ℤ
tick_after offset text before = lent_after tick_of (timing offset text) before

-- cut a text: only TOO LONG and NOT UTF-8 are given
unfoldable pub cutting : List ℕ → (room : ℕ) → Outcome ℕ
cutting text room = answered (cut_length room text) unless TOO_LONG when is_too_long text ++ NOT_UTF_8 when not (is_utf8 text)

-- bits 8 and up: the length
abbrev pub cut_answer : List ℕ → (room : ℕ) → ℕ
cut_answer text room = packed (λ n. n) (cutting text room)
