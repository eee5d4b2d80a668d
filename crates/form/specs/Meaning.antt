-- What the code's forms mean, in the words of the rules ("Types, after decoding the five references").
use Rattle.std.specs.Prelude.{ℕ, ◌+◌, ◌-◌, List, take, drop}
use Rattle.rules.specs.Forms.{Form as RulesForm, any_text, non_empty, flavor, timestamp, flag, amount, currency, root, part_type, qualifiers}
use Rattle.form.specs.declared.Form.{Form}
use Rattle.form.specs.declared.Form.TheVariants.{AnyText, NonEmpty, Flavor, Timestamp, Flag, Amount, Currency, Root, PartType, Qualifiers}

abbrev pub form_of : Form → RulesForm
form_of AnyText = any_text
form_of NonEmpty = non_empty
form_of Flavor = flavor
form_of Timestamp = timestamp
form_of Flag = flag
form_of Amount = amount
form_of Currency = currency
form_of Root = root
form_of PartType = part_type
form_of Qualifiers = qualifiers

-- the bytes between the quotes of a value that stands at q and ends at e
abbrev pub between : List ℕ → (q e : ℕ) → List ℕ
between s q e = take (e - 1 - (q + 1)) (drop (q + 1) s)
