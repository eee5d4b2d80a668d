use mathlib.Core.Path.{ap, ◌∙◌}
use Rattle.printing.proofs.Records.{writable_here, left_length, left_none, left_all, all_writable, record_size, record_most}
use mathlib.Core.Path.{◌≡◌}
use native.Mathlib.Omega.{arith}
use lib.ListN.{length}
use Rattle.rules.specs.LentLists.{listed}
use Rattle.rules.specs.Printing.{record_text, is_writable_stretch}
use Rattle.printing.proofs.record_length.Goals as goal

pub term_count-n-requires : goal.term_count-n-requires
term_count-n-requires c = tt

pub loop-k-init : goal.loop-k-init
loop-k-init c = (omega arith, all_writable c.args.list.now c.requires c.term_count-n.result c.term_count-n.ensures, omega (arith, record_size c.args.list.now c.requires, ap length (left_all c.args.list.now c.term_count-n.result c.term_count-n.ensures)))

pub term_size-total-requires : goal.term_size-total-requires
term_size-total-requires c = ap is_writable_stretch c.term_at.ensures ∙ (writable_here c.args.list.now c.loop-k.k c.term_count-n.result c.loop-k-test.true c.loop-k.invariant.1).0

pub overflow_add-total : goal.overflow_add-total
overflow_add-total c = omega (arith, rw c.term_at.ensures at c.term_size-total.ensures, c.loop-k.invariant.2, left_length c.args.list.now c.loop-k.k c.term_count-n.result c.loop-k-test.true, record_most c.args.list.now c.requires)

pub loop-k-preserved : goal.loop-k-preserved
loop-k-preserved c = (
  omega (arith, c.loop-k-test.true),
  (writable_here c.args.list.now c.loop-k.k c.term_count-n.result c.loop-k-test.true c.loop-k.invariant.1).1,
  omega (arith, rw c.term_at.ensures at c.term_size-total.ensures, c.loop-k.invariant.2, left_length c.args.list.now c.loop-k.k c.term_count-n.result c.loop-k-test.true),
)

pub returns : goal.returns
returns c = let e : c.loop-k.total ≡ length (record_text (listed c.args.list.now)) = omega (arith, c.loop-k.invariant.2, ap length (left_none c.args.list.now c.loop-k.k c.term_count-n.result (omega arith))) in (e, omega (arith, e, record_most c.args.list.now c.requires))
