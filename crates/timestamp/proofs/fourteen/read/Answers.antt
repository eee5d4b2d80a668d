-- `timestamp::fourteen::read` meets its contract.
use Rattle.timestamp.proofs.FourteenDigits.{padded, all-bytes, date_eight, clock_eight, date_word, clock_word, not-date, not-clock, fourteen_read, pair_most}
use Rattle.text.specs.Words.{PairsOf}
use lib.ListN.{take}
use native.Mathlib.Omega.{arith}
use mathlib.Core.Path.{subst}
use Rattle.timestamp.proofs.fourteen.read.Goals as goal

pub returns-then-s-ne14 : goal.returns-then-s-ne14
returns-then-s-ne14 c = λ e. absurd (c.if-s-ne14.true e)

pub returns-in_err-century : goal.returns-in_err-century
returns-in_err-century c = rw c.from_residual.ensures (λ e. not-date c.args.s.now c.if-s-ne14.false (c.in_err-century.ensures _ (date_eight c.args.s.now c.if-s-ne14.false (all-bytes c.args.s.now (λ i. omega (arith, c.shared_slice_known-1.given i)))) (date_word c.args.s.now c.if-s-ne14.false c.four.result c.four-2.result c.four.ensures.0 c.four-2.ensures.0)))

pub returns-in_err-hour : goal.returns-in_err-hour
returns-in_err-hour c = rw c.from_residual-in_err-hour.ensures (λ e. not-clock c.args.s.now c.if-s-ne14.false (c.in_err-hour.ensures _ (clock_eight c.args.s.now c.if-s-ne14.false (all-bytes c.args.s.now (λ i. omega (arith, c.shared_slice_known-1.given i)))) (clock_word c.args.s.now c.if-s-ne14.false c.four-3.result c.two.result c.four-3.ensures.0 c.two.ensures.0)))

pub overflow_mul-result : goal.overflow_mul-result
overflow_mul-result c = let d = c.in_ok-century.ensures _ (date_eight c.args.s.now c.if-s-ne14.false (all-bytes c.args.s.now (λ i. omega (arith, c.shared_slice_known-1.given i)))) (date_word c.args.s.now c.if-s-ne14.false c.four.result c.four-2.result c.four.ensures.0 c.four-2.ensures.0) in omega (arith, pair_most (take 8 c.args.s.now) 0 d.0, d.1)

pub overflow_add-result : goal.overflow_add-result
overflow_add-result c = let d = c.in_ok-century.ensures _ (date_eight c.args.s.now c.if-s-ne14.false (all-bytes c.args.s.now (λ i. omega (arith, c.shared_slice_known-1.given i)))) (date_word c.args.s.now c.if-s-ne14.false c.four.result c.four-2.result c.four.ensures.0 c.four-2.ensures.0) in omega (arith, pair_most (take 8 c.args.s.now) 0 d.0, d.1, pair_most (take 8 c.args.s.now) 2 d.0, d.2)

pub returns : goal.returns
returns c = fourteen_read c.args.s.now c.if-s-ne14.false _ _ _ _ _ _ _ _ (c.in_ok-century.ensures _ (date_eight c.args.s.now c.if-s-ne14.false (all-bytes c.args.s.now (λ i. omega (arith, c.shared_slice_known-1.given i)))) (date_word c.args.s.now c.if-s-ne14.false c.four.result c.four-2.result c.four.ensures.0 c.four-2.ensures.0)) (c.in_ok-hour.ensures _ (clock_eight c.args.s.now c.if-s-ne14.false (all-bytes c.args.s.now (λ i. omega (arith, c.shared_slice_known-1.given i)))) (clock_word c.args.s.now c.if-s-ne14.false c.four-3.result c.two.result c.four-3.ensures.0 c.two.ensures.0))
