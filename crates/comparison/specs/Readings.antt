-- The attributes of two elements, compared as amounts, in the words of the rules ("Yes, no, unknown").
use Rattle.std.specs.Prelude.{ℕ, Bool, List, ℤ}
use Rattle.std.proofs.Math.Option.{Option, none}
use Rattle.rules.specs.Basics.{if_some}
use Rattle.rules.specs.Parsers.{whole}
use Rattle.rules.specs.Markup.{Attribute, lookup}
use Rattle.rules.specs.Forms.{amount_text}
use Rattle.rules.specs.Comparison.{same_option, same_amount}

-- the amount that the attribute of a name is
abbrev pub amount_named : List ℕ → List Attribute → Option ℤ
amount_named n attrs = if_some (lookup n attrs) (whole amount_text) none

abbrev pub same_amount_read : List ℕ → List Attribute → List Attribute → Bool
same_amount_read n as' bs = same_option same_amount (amount_named n as') (amount_named n bs)
