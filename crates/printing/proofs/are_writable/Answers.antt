use Rattle.printing.proofs.Records.{writable_start, writable_more, writable_not, writable_end}
use mathlib.Core.Path.{sym, ap, ◌∙◌}
use native.Mathlib.Omega.{arith}
use Rattle.rules.specs.Printing.{is_writable_stretch}
use Rattle.printing.proofs.are_writable.Goals as goal

pub loop-k-init : goal.loop-k-init
loop-k-init c = (omega arith, writable_start c.args.list.now c.requires c.term_count-n.result c.term_count-n.ensures)

pub returns-then-not-is_writable_stretch : goal.returns-then-not-is_writable_stretch
returns-then-not-is_writable_stretch c =
    sym (writable_not c.args.list.now c.loop-k.k c.term_count-n.result c.loop-k-test.true (sym (c.is_writable_stretch.ensures ∙ ap is_writable_stretch c.term_at.ensures) ∙ c.if-not-is_writable_stretch.true)) ∙ c.loop-k.invariant.1

pub loop-k-preserved : goal.loop-k-preserved
loop-k-preserved c = (
  omega (arith, c.loop-k-test.true),
  sym (writable_more c.args.list.now c.loop-k.k c.term_count-n.result c.loop-k-test.true (sym (c.is_writable_stretch.ensures ∙ ap is_writable_stretch c.term_at.ensures) ∙ c.if-not-is_writable_stretch.false)) ∙ c.loop-k.invariant.1,
)

pub returns : goal.returns
returns c = sym (writable_end c.args.list.now c.loop-k.k c.term_count-n.result (omega arith)) ∙ c.loop-k.invariant.1
