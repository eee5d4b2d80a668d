use mathlib.Core.Path.{refl}
use native.Mathlib.Omega.{arith}
use Rattle.element.proofs.Walks.{walk_begins, walk_less, walk_goes, walk_ends}
use Rattle.datatype.proofs.Finding.{sought_goes, sought_ends}
use Rattle.datatype.proofs.sides.read_sides.Goals as goal

pub loop-i-init : goal.loop-i-init
loop-i-init c = walk_begins c.requires.end (λ all. (refl, refl))

pub next_inside-next-requires : goal.next_inside-next-requires
next_inside-next-requires c = let tag = c.requires in record { fact_1 = tag.name; fact_2 = tag.past; fact_3 = c.loop-i.invariant.within }

pub read-child-requires : goal.read-child-requires
read-child-requires c = omega (arith, (rw c.in-Child.is at c.next_inside-next.ensures).high)

pub after_child-low-requires : goal.after_child-low-requires
after_child-low-requires c = c.read-child.ensures.within.0

pub after_child-high-requires : goal.after_child-high-requires
after_child-high-requires c = c.read-child.ensures.within.0

pub overflow_sub-depth : goal.overflow_sub-depth
overflow_sub-depth c = (rw c.in-Child.is at c.next_inside-next.ensures).deep

pub past_element-at-requires : goal.past_element-at-requires
past_element-at-requires c = c.read-child.ensures.within.0

pub loop-i-smaller : goal.loop-i-smaller
loop-i-smaller c =
    walk_less (rw c.in-Child.is at c.next_inside-next.ensures) (c.read-child.ensures.within, c.read-child.ensures.tells) c.past_element-at.ensures.within

pub loop-i-preserved : goal.loop-i-preserved
loop-i-preserved c =
    walk_goes (rw c.in-Child.is at c.next_inside-next.ensures) (c.read-child.ensures.within, c.read-child.ensures.tells) c.loop-i.invariant c.past_element-at.ensures.within (λ all k v rest h p. (
      c.past_element-at.ensures.tells v rest h,
      sought_goes c.args.shift.minutes c.loop-i.low c.loop-i.high v c.after_child-low.result c.after_child-high.result
          (c.after_child-low.ensures _ v rest h) (c.after_child-high.ensures _ v rest h) all k p,
    ))

pub returns-in-Past : goal.returns-in-Past
returns-in-Past c =
    let l = c.loop-i in let n = rw c.in-Past.is at c.next_inside-next.ensures in record {
      within = (omega (arith, l.invariant.from, n.low), n.high);
      tells = λ v after h.
          let (p, e) = walk_ends n l.invariant v after h in
          let (x, y) = sought_ends c.args.shift.minutes l.low l.high v.kids p in
          (rw c.unwrap_or-first.ensures x, rw c.unwrap_or-last.ensures y, e);
    }
