-- `text::words::read_pairs` meets its contract.
use Rattle.text.proofs.EightDigits.{first-passed, first_failed, second-passed, second_failed, pair_read, first_pair, room_for_sixes, room_for_pairs}
use native.Mathlib.Omega.{arith}
use Rattle.text.proofs.words.read_pairs.Goals as goal

pub returns-then-digits-ne0 : goal.returns-then-digits-ne0
returns-then-digits-ne0 c = λ l k e. first_failed c.args.word l k e c.if-digits-ne0.true

pub overflow_add-digits : goal.overflow_add-digits
overflow_add-digits c = omega (arith, room_for_sixes c.args.word c.ranges.word.fits c.if-digits-ne0.false)

pub returns-then-digits-ne0-2 : goal.returns-then-digits-ne0-2
returns-then-digits-ne0-2 c = λ l k e. second_failed c.args.word l k e (first-passed c.args.word l k e c.if-digits-ne0.false) c.if-digits-ne0-2.true

pub overflow_mul-pairs : goal.overflow_mul-pairs
overflow_mul-pairs c = omega (arith, room_for_pairs c.args.word c.ranges.word.fits c.if-digits-ne0.false c.if-digits-ne0-2.false)

pub overflow_add-pairs : goal.overflow_add-pairs
overflow_add-pairs c = omega (arith, room_for_pairs c.args.word c.ranges.word.fits c.if-digits-ne0.false c.if-digits-ne0-2.false)

pub returns : goal.returns
returns c = λ l k e. let d = second-passed c.args.word l k e (first-passed c.args.word l k e c.if-digits-ne0.false) c.if-digits-ne0-2.false in (d, first_pair c.args.word l k e d, pair_read c.args.word l k e d 2 (omega arith), pair_read c.args.word l k e d 4 (omega arith), pair_read c.args.word l k e d 6 (omega arith))
