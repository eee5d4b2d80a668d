use native.Mathlib.Omega.{arith}
use mathlib.Core.Path.{refl}
use Rattle.rules.proofs.Tests.{clash}
use Rattle.interval.specs.Meaning.{place_of}
use Rattle.element.proofs.Walks.{walk_begins, walk_less, walk_goes, walk_ends}
use Rattle.listing.proofs.Placing.{means_single, means-other, means_members, place_goes, place_ends}
use Rattle.listing.proofs.place.+is_meant_at.Goals as goal

pub shape_of-shape-requires : goal.shape_of-shape-requires
shape_of-shape-requires t c = c.requires.0

pub in_single-requires : goal.in_single-requires
in_single-requires t c = record { fact_1 = c.requires.0; fact_2 = c.requires.1 }

pub returns-in-Single : goal.returns-in-Single
returns-in-Single t c =
    let args = c.args in record {
      within = c.in_single.ensures.within;
      tells = λ v after h.
          let (m, e) = c.in_single.ensures.tells v after h in
          (means_single args.shift.minutes v (place_of args.n args.gap) (rw c.in-Single.is at (c.shape_of-shape.ensures _ v after h)) m, e);
    }

pub past_element-requires : goal.past_element-requires
past_element-requires t c = c.requires.0

pub returns-in-Other : goal.returns-in-Other
returns-in-Other t c =
    let args = c.args in record {
      within = c.past_element.ensures.within;
      tells = λ v after h. (
        means-other args.shift.minutes v (place_of args.n args.gap) (rw c.in-Other.is at (c.shape_of-shape.ensures _ v after h)),
        c.past_element.ensures.tells v after h,
      );
    }

pub loop-i-init : goal.loop-i-init
loop-i-init t c = ((λ z. c.in_none-so_far.ensures), walk_begins c.requires.0.end (λ all. refl))

pub next_inside-next-requires : goal.next_inside-next-requires
next_inside-next-requires t c = let tag = c.requires.0 in record { fact_1 = tag.name; fact_2 = tag.past; fact_3 = c.loop-i.invariant.1.within }

pub read-child-requires : goal.read-child-requires
read-child-requires t c = omega (arith, (rw c.in-Child.is at c.next_inside-next.ensures).high)

pub overflow_sub-depth : goal.overflow_sub-depth
overflow_sub-depth t c = (rw c.in-Child.is at c.next_inside-next.ensures).deep

pub is_meant_at-member-requires : goal.is_meant_at-member-requires
is_meant_at-member-requires t c =
    (omega (arith, (rw c.in-Child.is at c.next_inside-next.ensures).deep), (c.read-child.ensures.within.0, c.requires.1))

pub loop-i-smaller : goal.loop-i-smaller
loop-i-smaller t c =
    walk_less (rw c.in-Child.is at c.next_inside-next.ensures) (c.read-child.ensures.within, c.read-child.ensures.tells) c.is_meant_at-member.ensures.within

pub loop-i-preserved : goal.loop-i-preserved
loop-i-preserved t c =
    let args = c.args in (
      (λ z. clash (cc)),
      walk_goes (rw c.in-Child.is at c.next_inside-next.ensures) (c.read-child.ensures.within, c.read-child.ensures.tells) c.loop-i.invariant.1 c.is_meant_at-member.ensures.within (λ all left v rest h p.
          let (m, e) = c.is_meant_at-member.ensures.tells v rest h in (
            e,
            place_goes args.shift.minutes c.in-Members.op (place_of args.n args.gap) c.loop-i.any c.loop-i.so_far v c.is_meant_at-member.result.is
                m c.in_both-so_far.result c.in_both-so_far.ensures all left p,
          )),
    )

pub returns-in-Past : goal.returns-in-Past
returns-in-Past t c =
    let l = c.loop-i in let n = rw c.in-Past.is at c.next_inside-next.ensures in
    let args = c.args in
    let x = place_of args.n args.gap in let op = c.in-Members.op in record {
      within = (omega (arith, l.invariant.1.from, n.low), n.high);
      tells = λ v after h.
          let (p, e) = walk_ends n l.invariant.1 v after h in
          let w = rw c.in-Members.is at (c.shape_of-shape.ensures _ v after h) in
          (means_members args.shift.minutes v x op w (place_ends args.shift.minutes op x l.any l.so_far l.invariant.0 v.kids p), e);
    }
