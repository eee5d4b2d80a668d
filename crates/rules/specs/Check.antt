-- 01-scope.md, "The refusal ladder": checking a record.
use Rattle.std.specs.Prelude.{ℕ, suc, ◌+◌, ◌-◌, Bool, not, List, ◌++◌, leb, ltb, length, ℤ, pos, negsuc}
use Rattle.rules.specs.Basics.{if_some}
use Rattle.rules.specs.Refusal.{Refusal, OFFSET, TOO_LONG, NOT_UTF_8, MARKUP, Outcome, answered, refused, faults_in, ◌unless◌, ◌when◌}
use Rattle.rules.specs.Markup.{Element, document}
use Rattle.rules.specs.Utf8.{is_utf8}
use Rattle.rules.specs.Judge.{top_faults}

-- -840..840
abbrev pub is_offset : ℤ → Bool
is_offset (pos n) = leb n 840
is_offset (negsuc n) = ltb n 840

-- 840 less the agreed offset, where that is in range; another is OFFSET
abbrev pub shift_by : ℤ → ℕ
shift_by (pos n) = 840 - n
shift_by (negsuc n) = 840 + suc n

-- over 16,384 bytes
abbrev pub is_too_long : List ℕ → Bool
is_too_long input = ltb 16_384 (length input)

-- the record's one element
abbrev pub element_of : List ℕ → Outcome Element
element_of input = if_some (document input) answered (refused MARKUP)

-- every fault that applies anywhere in a record
unfoldable pub record_faults : (offset : ℤ) → List ℕ → List Refusal
record_faults offset input =
    OFFSET when not (is_offset offset) ++ TOO_LONG when is_too_long input ++ NOT_UTF_8 when not (is_utf8 input)
    ++ faults_in (top_faults (shift_by offset)) (element_of input)

-- the record's element, or the first fault on the ladder
unfoldable pub check : (offset : ℤ) → List ℕ → Outcome Element
check offset input = element_of input unless record_faults offset input
