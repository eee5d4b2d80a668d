use native.Mathlib.Omega.{arith}
use mathlib.Core.Path.{refl}
use mathlib.Core.Bool.{false}
use mathlib.Core.Option.{none}
use borrow.Author.Tests.{not-true, not-false}
use Rattle.rules.proofs.Tests.{clash}
use Rattle.element.proofs.Walks.{walk_begins, walk_less, walk_child, walk_goes, walk_ends}
use Rattle.listing.specs.Sets.{none_yet}
use Rattle.listing.proofs.Joining.{as_formed, join_first, join_next}
use Rattle.listing.proofs.Evaluating.{none_said, null-set, single_set, other-set, members_set, member-known, member-unknown, members_said}
use Rattle.listing.proofs.set.+evaluate.Goals as goal

pub returns-then-has : goal.returns-then-has
returns-then-has t c =
    let all = none_said c.args.shift.minutes c.requires.end c.nothing-so_far.ensures (λ v after h.
    (_, null-set c.args.shift.minutes v (c.has.ensures _ v.attrs h.tells) c.if-has.true))
    in record { formed = all.0; within = all.1.0; tells = all.1.1 }

pub shape_of-requires : goal.shape_of-requires
shape_of-requires t c = c.requires

pub of_single-so_far-requires : goal.of_single-so_far-requires
of_single-so_far-requires t c = c.requires

pub returns-in-Single : goal.returns-in-Single
returns-in-Single t c =
    record {
      formed = c.of_single-so_far.ensures.formed;
      within = c.of_single-so_far.ensures.within;
      tells = λ v after h.
          let (s, e) = c.of_single-so_far.ensures.tells v after h in
          let w = rw c.in-Single.is at (c.shape_of.ensures _ v after h) in
          (single_set c.args.shift.minutes v (c.has.ensures _ v.attrs h.tells) c.if-has.false w s, λ k. e);
    }

pub returns-in-Other : goal.returns-in-Other
returns-in-Other t c =
    let all = none_said c.args.shift.minutes c.requires.end c.nothing-so_far.ensures (λ v after h. (
      _,
      other-set c.args.shift.minutes v (c.has.ensures _ v.attrs h.tells) c.if-has.false (rw c.in-Other.is at (c.shape_of.ensures _ v after h)),
    ))
    in record { formed = all.0; within = all.1.0; tells = all.1.1 }

pub loop-i-init : goal.loop-i-init
loop-i-init t c =
    let (f, k, n, e) = c.nothing-so_far.ensures in
    (f, rw e (walk_begins c.requires.end (λ all. (none, none_yet k n, refl))))

pub next_inside-requires : goal.next_inside-requires
next_inside-requires t c = let tag = c.requires in record { fact_1 = tag.name; fact_2 = tag.past; fact_3 = c.loop-i.invariant.1.within }

pub read-child-requires : goal.read-child-requires
read-child-requires t c = omega (arith, (rw c.in-Child.is at c.next_inside.ensures).high)

pub overflow_sub-depth : goal.overflow_sub-depth
overflow_sub-depth t c = (rw c.in-Child.is at c.next_inside.ensures).deep

pub evaluate-member-requires : goal.evaluate-member-requires
evaluate-member-requires t c =
    (omega (arith, (rw c.in-Child.is at c.next_inside.ensures).deep), c.read-child.ensures.within.0)

pub returns-then-not-member : goal.returns-then-not-member
returns-then-not-member t c =
    let e = c.evaluate-member in
    let n = rw c.in-Child.is at c.next_inside.ensures in
    let shift = c.args.shift.minutes in let op = c.in-Members.op in let (f, w) = c.loop-i.invariant in record {
      formed = as_formed false _ f;
      within = (w.from, w.within);
      tells = λ v after h.
          let (all, m, k, p) = walk_child n (c.read-child.ensures.within, c.read-child.ensures.tells) w v after h in
          let y = rw c.in-Members.is at (c.shape_of.ensures _ v after h) in (
            members_set shift v (c.has.ensures _ v.attrs h.tells) c.if-has.false op y
                (member-unknown shift op m.child (e.ensures.tells m.child m.rest k).0 v.kids m.others p (not-true e.result.known c.if-not-member.true) refl),
            λ k. clash (cc (k)),
          );
    }

pub loop-i-smaller-then-so_far-eq0 : goal.loop-i-smaller-then-so_far-eq0
loop-i-smaller-then-so_far-eq0 t c =
    walk_less (rw c.in-Child.is at c.next_inside.ensures) (c.read-child.ensures.within, c.read-child.ensures.tells)
    c.evaluate-member.ensures.within

pub loop-i-preserved-then-so_far-eq0 : goal.loop-i-preserved-then-so_far-eq0
loop-i-preserved-then-so_far-eq0 t c =
    let e = c.evaluate-member in
    let op = c.in-Members.op in
    let k = not-false e.result.known c.if-not-member.false in (
      e.ensures.formed,
      walk_goes (rw c.in-Child.is at c.next_inside.ensures) (c.read-child.ensures.within, c.read-child.ensures.tells) c.loop-i.invariant.1 e.ensures.within (λ all left v rest h p.
          let (s, q) = e.ensures.tells v rest h in
          (q k, member-known c.args.shift.minutes op v s all left p k (join_first op _ _ c.if-so_far-eq0.true))),
    )

pub join-so_far-requires : goal.join-so_far-requires
join-so_far-requires t c =
    record { fact_1 = c.loop-i.invariant.0; fact_2 = c.evaluate-member.ensures.formed }

pub loop-i-smaller : goal.loop-i-smaller
loop-i-smaller t c =
    rw c.join-so_far.ensures.formed.1 (walk_less (rw c.in-Child.is at c.next_inside.ensures) (c.read-child.ensures.within, c.read-child.ensures.tells)
    c.evaluate-member.ensures.within)

pub loop-i-preserved : goal.loop-i-preserved
loop-i-preserved t c =
    let e = c.evaluate-member in
    let op = c.in-Members.op in
    let k = not-false e.result.known c.if-not-member.false in let (f, z) = c.join-so_far.ensures.formed in (
      f,
      walk_goes (rw c.in-Child.is at c.next_inside.ensures) (c.read-child.ensures.within, c.read-child.ensures.tells) c.loop-i.invariant.1 (rw z e.ensures.within) (λ all left v rest h p.
          let (s, q) = e.ensures.tells v rest h in
          (rw z (q k), member-known c.args.shift.minutes op v s all left p k (join_next op _ _ c.if-so_far-eq0.false c.join-so_far.ensures.tells))),
    )

pub returns-in-Past : goal.returns-in-Past
returns-in-Past t c =
    let (f, w) = c.loop-i.invariant in let n = rw c.in-Past.is at c.next_inside.ensures in
    let shift = c.args.shift.minutes in let op = c.in-Members.op in record {
      formed = as_formed _ _ f;
      within = (omega (arith, w.from, n.low), n.high);
      tells = λ v after h.
          let (p, e) = walk_ends n w v after h in
          let y = rw c.in-Members.is at (c.shape_of.ensures _ v after h) in
          (members_set shift v (c.has.ensures _ v.attrs h.tells) c.if-has.false op y (members_said shift op v.kids p _), λ k. e);
    }
