-- 01-scope.md, "Types, after decoding the five references": the forms of texts.
use Rattle.std.specs.Prelude.{ℕ, ◌+◌, ◌*◌, Bool, false, not, ◌&&◌, ◌||◌, List, [], ◌∷◌, leb, eqb, length, ℤ, pos, neg_ℤ}
use Rattle.rules.specs.Basics.{is_some, is_empty, every, split, words, one_of, is_from, is_digit, decimal}
use Rattle.rules.specs.Refusal.{Refusal, VALUE, faults_of, ◌when◌}
use Rattle.rules.specs.Parsers.{Parser, pure, ◌>>=◌, ◌>>◌, ◌or◌, one, up_to, byte, whole}
use Rattle.rules.specs.Timestamp.{read_timestamp, point, ten_thousandths}

pub data Form : Type 0 where
  any_text non_empty flavor timestamp flag amount currency root part_type qualifiers : Form

-- nullFlavor
abbrev pub is_flavor : List ℕ → Bool
is_flavor = one_of "NI INV DER OTH NINF PINF UNC MSK NA UNK ASKU NAV NASK QS TRC"

-- lowClosed, highClosed
abbrev pub is_flag : List ℕ → Bool
is_flag = one_of "true false"

-- MO value: optional `-`, 1 to 12 digits, optionally `.` and 1 to 4 digits; held in ten-thousandths
unfoldable pub amount_text : Parser ℤ
amount_text = do
  sign ← (byte 45 >> pure neg_ℤ) or pure (λ z. z)
  d ← one is_digit
  ds ← up_to 11 is_digit
  f ← point or pure []
  pure (sign (pos (decimal (d ∷ ds) * 10_000 + ten_thousandths f)))

-- MO currency: three capitals A-Z
abbrev pub is_currency : List ℕ → Bool
is_currency text = eqb (length text) 3 && every (is_from 65 90) text

-- digits, with no leading zero
unfoldable pub is_plain_number : List ℕ → Bool
is_plain_number [] = false
is_plain_number (c ∷ []) = is_digit c
is_plain_number (c ∷ d ∷ s) = is_from 49 57 c && every is_digit (d ∷ s)

-- two or more numbers, the first 0 to 2, the second at most 39 under 0 and 1
unfoldable pub is_oid : List (List ℕ) → Bool
is_oid [] = false
is_oid (a ∷ []) = false
is_oid (a ∷ b ∷ more) = every is_plain_number (a ∷ b ∷ more) && leb (decimal a) 2 && (eqb (decimal a) 2 || leb (decimal b) 39)

-- II root, CD codeSystem: an OID of at most 128 bytes, its numbers parted by dots
unfoldable pub is_root : List ℕ → Bool
is_root text = leb (length text) 128 && is_oid (split 46 text)

-- type of a part of EN
abbrev pub is_part_type : List ℕ → Bool
is_part_type = one_of "FAM GIV TITLE DEL"

-- qualifier of a part of EN: one or more, with single spaces
abbrev pub is_qualifiers : List ℕ → Bool
is_qualifiers text = every (one_of "LS AC NB PR HON BR AD SP MID CL IN PFX SFX") (words text)

-- the faults of a text that is to be of a form
unfoldable pub form_faults : (shift : ℕ) → Form → List ℕ → List Refusal
form_faults shift any_text text = []
form_faults shift non_empty text = VALUE when is_empty text
form_faults shift flavor text = VALUE when not (is_flavor text)
form_faults shift timestamp text = faults_of (read_timestamp shift text)
form_faults shift flag text = VALUE when not (is_flag text)
form_faults shift amount text = VALUE when not (is_some (whole amount_text text))
form_faults shift currency text = VALUE when not (is_currency text)
form_faults shift root text = VALUE when not (is_root text)
form_faults shift part_type text = VALUE when not (is_part_type text)
form_faults shift qualifiers text = VALUE when not (is_qualifiers text)
