-- Amounts and currencies as code holds them, in the words of the rules.
use Rattle.std.specs.Prelude.{ℕ, ◌^◌, ◌≤◌, ◌<◌, ◌≡◌, Bool, true, false, cond, List, eqb, Option as StdOption, Some, None, ℤ, pos, neg_ℤ, length, drop}
use Rattle.std.proofs.Math.Option.{Option, none, some}
use Rattle.rules.specs.Forms.{is_currency}
use Rattle.rules.specs.TotalNumbers.{currency_number}
use Rattle.rules.specs.Parsers.{ok, pure, ◌>>◌, ◌or◌, byte}
use Rattle.form.specs.declared.money.Amount.{Amount}

-- a sign before a number
abbrev pub sign_of : (negative : Bool) → ℤ → ℤ
sign_of true = neg_ℤ
sign_of false = λ z. z

-- the amount, in ten-thousandths
abbrev pub amount_of : StdOption Amount → Option ℤ
amount_of (Some a) = some (sign_of a.negative (pos a.value))
amount_of None = none

-- 12 digits and 4 more
abbrev pub Small : StdOption Amount → Type 0
Small (Some a) = a.value < 10 ^ 16
Small None = Unit {0}

-- the number of a currency; a text that is none has 0
abbrev pub code_of : List ℕ → ℕ
code_of t = cond (is_currency t) (currency_number t) 0

-- the sign ends at a position
pub record SignAt (t : List ℕ) (at : ℕ) : Type 0 where
  pub high : at ≤ length t
  pub few : at ≤ 1
  pub reads : ((byte 45 >> pure neg_ℤ) or pure (λ z. z)) t ≡ ok (sign_of (eqb at 1)) (drop at t)
