-- `form::fault` meets its contract, by an answer for each form.
use mathlib.Core.Path.{refl, sym, ap}
use mathlib.Core.Bool.{not, not-not}
use Rattle.rules.specs.Basics.{is_empty}
use Rattle.rules.specs.Refusal.{VALUE, first_of, ◌when◌}
use Rattle.rules.specs.Forms.{is_currency, is_root, is_qualifiers, form_faults}
use Rattle.rules.proofs.Unreferenced.{no_currency, no_root, no_qualifiers}
use Rattle.form.specs.declared.Form.TheVariants.{AnyText, NonEmpty, Flavor, Timestamp, Flag, Amount, Currency, Root, PartType, Qualifiers}
use Rattle.form.proofs.Faults.{by_test, by_text, by_faults}
use Rattle.form.proofs.fault.Goals as goal

pub value_unless-requires : goal.value_unless-requires
value_unless-requires c = tt

pub value_unless-requires-in-Flavor : goal.value_unless-requires-in-Flavor
value_unless-requires-in-Flavor c = tt

pub value_unless-requires-in-Flag : goal.value_unless-requires-in-Flag
value_unless-requires-in-Flag c = tt

pub value_unless-requires-in-Amount : goal.value_unless-requires-in-Amount
value_unless-requires-in-Amount c = tt

pub is_currency-requires : goal.is_currency-requires
is_currency-requires c = tt

pub value_unless-requires-in-Currency : goal.value_unless-requires-in-Currency
value_unless-requires-in-Currency c = tt

pub is_root-requires : goal.is_root-requires
is_root-requires c = tt

pub value_unless-requires-in-Root : goal.value_unless-requires-in-Root
value_unless-requires-in-Root c = tt

pub value_unless-requires-in-PartType : goal.value_unless-requires-in-PartType
value_unless-requires-in-PartType c = tt

pub is_qualifiers-requires : goal.is_qualifiers-requires
is_qualifiers-requires c = tt

pub value_unless-requires-in-Qualifiers : goal.value_unless-requires-in-Qualifiers
value_unless-requires-in-Qualifiers c = tt

pub returns-in-AnyText : goal.returns-in-AnyText
unfolding form_faults first_of
returns-in-AnyText c = λ v h. by_faults c.args.shift.minutes AnyText v refl c.in-AnyText.is

pub returns-in-NonEmpty : goal.returns-in-NonEmpty
unfolding form_faults
returns-in-NonEmpty c = λ v h. by_test c.args.shift.minutes NonEmpty v c.value_unless.ensures c.in-NonEmpty.is (ap not (c.is_empty.ensures v _ h)) (ap (λ b. VALUE when b) (sym (not-not (is_empty v))))

pub returns-in-Flavor : goal.returns-in-Flavor
unfolding form_faults
returns-in-Flavor c = λ v h. by_test c.args.shift.minutes Flavor v c.value_unless-in-Flavor.ensures c.in-Flavor.is (c.is_flavor.ensures v _ h) refl

pub returns-in-Timestamp : goal.returns-in-Timestamp
unfolding form_faults
returns-in-Timestamp c = λ v h. by_faults c.args.shift.minutes Timestamp v (c.timestamp_fault.ensures v h) c.in-Timestamp.is

pub returns-in-Flag : goal.returns-in-Flag
unfolding form_faults
returns-in-Flag c = λ v h. by_test c.args.shift.minutes Flag v c.value_unless-in-Flag.ensures c.in-Flag.is (c.is_flag.ensures v _ h) refl

pub returns-in-Amount : goal.returns-in-Amount
unfolding form_faults
returns-in-Amount c = λ v h. by_test c.args.shift.minutes Amount v c.value_unless-in-Amount.ensures c.in-Amount.is (c.is_amount.ensures v h) refl

pub returns-in-Currency : goal.returns-in-Currency
unfolding form_faults
returns-in-Currency c = by_text is_currency no_currency c.args.shift.minutes Currency c.args.s.now c.args.q c.args.e c.requires.fact_2 c.inside-raw.ensures c.value_unless-in-Currency.ensures c.in-Currency.is c.is_currency.ensures (λ v. refl)

pub returns-in-Root : goal.returns-in-Root
unfolding form_faults
returns-in-Root c = by_text is_root no_root c.args.shift.minutes Root c.args.s.now c.args.q c.args.e c.requires.fact_2 c.inside-raw.ensures c.value_unless-in-Root.ensures c.in-Root.is c.is_root.ensures (λ v. refl)

pub returns-in-PartType : goal.returns-in-PartType
unfolding form_faults
returns-in-PartType c = λ v h. by_test c.args.shift.minutes PartType v c.value_unless-in-PartType.ensures c.in-PartType.is (c.is_part_type.ensures v _ h) refl

pub returns-in-Qualifiers : goal.returns-in-Qualifiers
unfolding form_faults
returns-in-Qualifiers c = by_text is_qualifiers no_qualifiers c.args.shift.minutes Qualifiers c.args.s.now c.args.q c.args.e c.requires.fact_2 c.inside-raw.ensures c.value_unless-in-Qualifiers.ensures c.in-Qualifiers.is c.is_qualifiers.ensures (λ v. refl)
