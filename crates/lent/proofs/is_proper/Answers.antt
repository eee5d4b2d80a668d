use Rattle.std.proofs.Common.{◌/◌, not, length, sym, ap, ◌∙◌, arith}
use borrow.Author.Tests.{not-true, not-false}
use Rattle.lent.proofs.Proper.{improper_part, improper_long, proper-empty, first-bad, first_good, next-bad, next_unparted, next_good, none_left, good_kinds}
use Rattle.lent.proofs.is_proper.Goals as goal

pub returns-then-list-eq0 : goal.returns-then-list-eq0
returns-then-list-eq0 c = sym (ap not (proper-empty c.args.list.now (omega arith)))

pub returns-then-list-ne0 : goal.returns-then-list-ne0
returns-then-list-ne0 c = sym (ap not (improper_part c.args.list.now (omega arith)))

pub returns-then-list-gt1024 : goal.returns-then-list-gt1024
returns-then-list-gt1024 c = sym (ap not (improper_long c.args.list.now (omega arith) (omega arith)))

pub returns-then-not-is_stretch : goal.returns-then-not-is_stretch
returns-then-not-is_stretch c =
    let s = c.args.list.now in
    sym (ap not (first-bad s (length s / 32) (omega arith) (omega arith) (omega arith) c.read_row-row.result c.read_row-row.ensures (not-false _ (sym c.is_stretch.ensures ∙ c.if-not-is_stretch.true))))

pub loop-k-init : goal.loop-k-init
loop-k-init c =
    let s = c.args.list.now in
    (omega arith, omega arith, first_good s (length s / 32) (omega arith) (omega arith) (omega arith) c.read_row-row.result c.read_row-row.ensures (not-true _ (sym c.is_stretch.ensures ∙ c.if-not-is_stretch.false)))

pub returns-then-not-is_stretch-2 : goal.returns-then-not-is_stretch-2
returns-then-not-is_stretch-2 c =
    let s = c.args.list.now in
    let l = c.loop-k in
    sym (ap not (next-bad s (length s / 32) l.k c.loop-k-test.true l.row l.invariant.2 c.read_row-next.result c.read_row-next.ensures (not-false _ (sym c.is_stretch-in-loop-k.ensures ∙ c.if-not-is_stretch-2.true))))

pub are_parted-requires : goal.are_parted-requires
are_parted-requires c =
    let q = c.read_row-next.result in
    record { fact_1 = (good_kinds c.loop-k.row c.loop-k.invariant.2.good).1; fact_2 = (good_kinds q (not-true _ (sym c.is_stretch-in-loop-k.ensures ∙ c.if-not-is_stretch-2.false))).0 }

pub returns-then-not-are_parted : goal.returns-then-not-are_parted
returns-then-not-are_parted c =
    let s = c.args.list.now in
    let l = c.loop-k in
    sym (ap not (next_unparted s (length s / 32) l.k c.loop-k-test.true l.row l.invariant.2 c.read_row-next.result c.read_row-next.ensures (not-false _ (sym c.are_parted.ensures ∙ c.if-not-are_parted.true))))

pub loop-k-preserved : goal.loop-k-preserved
loop-k-preserved c =
    let s = c.args.list.now in
    let l = c.loop-k in
    (omega arith, l.invariant.1, next_good s (length s / 32) l.k c.loop-k-test.true l.row l.invariant.2 c.read_row-next.result c.read_row-next.ensures (not-true _ (sym c.is_stretch-in-loop-k.ensures ∙ c.if-not-is_stretch-2.false)) (not-true _ (sym c.are_parted.ensures ∙ c.if-not-are_parted.false)))

pub returns : goal.returns
returns c =
    let s = c.args.list.now in
    let l = c.loop-k in
    sym (ap not (none_left s (length s / 32) l.k c.loop-k-test.false l.row l.invariant.2))
