-- Words of a text, byte by byte, in the words of the rules.
use Rattle.std.specs.Prelude.{ℕ, ◌+◌, Bool, ◌&&◌, cond, List, ltb, eqb, length, get_or}
use Rattle.rules.specs.Basics.{one_of}

-- how many bytes of w the current word has after c, where it had k; more than w has if it is another word
abbrev pub along_by : (w : List ℕ) → (k c : ℕ) → ℕ
along_by w k c = cond (eqb c 32) 0 (cond (ltb k (length w) && eqb (get_or w k 0) c) (k + 1) (length w + 1))

abbrev pub is_qualifier : List ℕ → Bool
is_qualifier = one_of "LS AC NB PR HON BR AD SP MID CL IN PFX SFX"

-- the page's null flavors ("Types") in two groups, as 000 has them (7.1.4): those of an invalid value, and of an unknown one
abbrev pub is_invalid_flavor : List ℕ → Bool
is_invalid_flavor = one_of "INV DER OTH NINF PINF UNC"

abbrev pub is_unknown_flavor : List ℕ → Bool
is_unknown_flavor = one_of "UNK ASKU NAV NASK QS TRC"
