-- `element::tag::start_at` meets its contract.
use native.Mathlib.Omega.{arith}
use Rattle.rules.specs.Markup.{name}
use Rattle.text.proofs.Reading.{none_of, good}
use Rattle.element.proofs.Plain.{plain_start, start_not}
use Rattle.element.proofs.tag.start_at.Goals as goal

pub overflow_add-name_end : goal.overflow_add-name_end
overflow_add-name_end c = omega (arith, (plain_start c.in-Some.ensures).0.high)

pub overflow_add-result : goal.overflow_add-result
overflow_add-result c = omega (arith, (plain_start c.in-Some.ensures).1.high)

pub returns-in-Some : goal.returns-in-Some
returns-in-Some c = plain_start c.in-Some.ensures

pub returns-in_err-name_end : goal.returns-in_err-name_end
returns-in_err-name_end c = start_not c.args.s.now c.args.at c.from_residual.ensures (none_of name c.in_err-name_end.ensures)

pub slice_bounds-number_of-count : goal.slice_bounds-number_of-count
slice_bounds-number_of-count c = omega (arith, (good c.in_ok-name_end.ensures).low)

pub slice_bounds-number_of-start : goal.slice_bounds-number_of-start
slice_bounds-number_of-start c = omega (arith, (good c.in_ok-name_end.ensures).low)

pub slice_bounds-number_of-end : goal.slice_bounds-number_of-end
slice_bounds-number_of-end c = (good c.in_ok-name_end.ensures).high

pub past_equals-requires : goal.past_equals-requires
past_equals-requires c = let g = good c.in_ok-name_end.ensures in record { fact_1 = omega (arith, g.low); fact_2 = g.high }

pub returns : goal.returns
returns c = (good c.in_ok-name_end.ensures, c.past_equals.ensures, c.number_of.ensures)
