use Prim.Native.Nat.{ℕ}
use native.Mathlib.Omega.{arith}
use mathlib.Core.Path.{sym, subst}
use Rattle.datatype.specs.Meaning.{kind_meant}
use Rattle.element.proofs.Walks.{Walked, walk_less, walk_goes}
use Rattle.judge.proofs.Walking.{Judges, judged-first, judged-next, judged_last}
use Rattle.judge.proofs.+judge_content.Goals as goal

pub loop-i-init : goal.loop-i-init
loop-i-init t c = judged-first c.args.shift.minutes (kind_meant c.args.kind) c.begin-row.result c.requires.end c.begin-row.ensures.0 c.begin-row.ensures.1

pub next_inside-next-requires : goal.next_inside-next-requires
next_inside-next-requires t c = let tag = c.requires in record { fact_1 = tag.name; fact_2 = tag.past; fact_3 = c.loop-i.invariant.within }

pub read-child-requires : goal.read-child-requires
read-child-requires t c = let n = rw c.in-Child.is at c.next_inside-next.ensures in omega (arith, n.high)

pub child_asked-asked-requires : goal.child_asked-asked-requires
child_asked-asked-requires t c = c.read-child.ensures.within.0

pub overflow_sub-depth : goal.overflow_sub-depth
overflow_sub-depth t c = let n = rw c.in-Child.is at c.next_inside-next.ensures in n.deep

pub judge_content-content-requires : goal.judge_content-content-requires
judge_content-content-requires t c =
    let n = rw c.in-Child.is at c.next_inside-next.ensures in
    (omega (arith, n.deep), c.read-child.ensures.within.0)

pub with_child-row-requires : goal.with_child-row-requires
with_child-row-requires t c = c.read-child.ensures.within.0

pub loop-i-smaller : goal.loop-i-smaller
loop-i-smaller t c =
    let less = walk_less (rw c.in-Child.is at c.next_inside-next.ensures) (c.read-child.ensures.within, c.read-child.ensures.tells) c.judge_content-content.ensures.within in
    omega (arith, less, c.with_child-row.ensures.0)

pub loop-i-preserved : goal.loop-i-preserved
loop-i-preserved t c =
    let content = c.judge_content-content in
    let l = c.loop-i in let a = c.args in
    subst (λ (e : ℕ). Walked a.s.now a.tag a.depth e (Judges a.shift.minutes (kind_meant a.kind) c.with_child-row.result)) (sym c.with_child-row.ensures.0)
    (walk_goes (rw c.in-Child.is at c.next_inside-next.ensures) (c.read-child.ensures.within, c.read-child.ensures.tells) l.invariant (content.ensures.within) (λ all left v rest h p.
    let n = content.ensures.tells v rest h in
    (n.ends, judged-next a.shift.minutes (kind_meant a.kind) l.row c.with_child-row.result all left v (c.with_child-row.ensures.1 (kind_meant a.kind) _ v rest h (c.child_asked-asked.ensures a.shift.minutes _ v rest h) n) p)))

pub finish-requires : goal.finish-requires
finish-requires t c = c.requires

pub returns-in-Past : goal.returns-in-Past
returns-in-Past t c =
    let l = c.loop-i in let a = c.args in
    let n = rw c.in-Past.is at c.next_inside-next.ensures in
    let e = c.finish.ensures.0 in record { within = (omega (arith, l.invariant.from, n.low, e), omega (arith, n.high, e)); tells = judged_last a.shift.minutes (kind_meant a.kind) l.row n l.invariant c.finish.result (c.finish.ensures.1 a.shift.minutes) }
