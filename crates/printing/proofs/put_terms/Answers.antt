use mathlib.Core.Path.{ap}
use Rattle.writer.proofs.Placing.{placed-none, put_rest}
use Rattle.printing.proofs.Records.{writable_here, left_more, left_length, left_none, left_all, all_writable}
use mathlib.Core.Path.{refl, sym, ◌∙◌}
use native.Mathlib.Omega.{arith}
use lib.ListN.{length}
use Rattle.rules.specs.Printing.{term_text, is_writable_stretch}
use Rattle.writer.specs.Placing.{placed}
use Rattle.printing.proofs.put_terms.Goals as goal

pub term_count-n-requires : goal.term_count-n-requires
term_count-n-requires c = tt

pub loop-k-init : goal.loop-k-init
loop-k-init c = (omega arith, refl, all_writable c.args.list.now c.requires.fact_1 c.term_count-n.result c.term_count-n.ensures, refl, refl)

pub put_term-next-requires : goal.put_term-next-requires
put_term-next-requires c =
    let l = c.args.list.now in
    let e = c.term_at.ensures in
    let t = c.loop-k-test.true in
    record {
      fact_1 = ap is_writable_stretch e ∙ (writable_here l c.loop-k.k c.term_count-n.result t c.loop-k.invariant.2).0;
      fact_2 = omega (
        arith,
        ap (λ s. length (term_text s)) e,
        c.loop-k.invariant.1,
        c.loop-k.invariant.3,
        left_length l c.loop-k.k c.term_count-n.result t,
        ap length (left_all l c.term_count-n.result c.term_count-n.ensures),
        c.requires.fact_2,
      );
    }

pub loop-k-preserved : goal.loop-k-preserved
loop-k-preserved c =
    let p = rw c.term_at.ensures at c.put_term-next.ensures in
    let l = c.loop-k in
    let t = c.loop-k-test.true in (
      omega (arith, t),
      c.put_term-next.auto.out ∙ l.invariant.1,
      (writable_here c.args.list.now l.k c.term_count-n.result t l.invariant.2).1,
      omega (arith, p.next_is, l.invariant.3, left_length c.args.list.now l.k c.term_count-n.result t),
      put_rest _ p ∙ ap (λ s. placed l.next s l.out) (sym (left_more c.args.list.now l.k c.term_count-n.result t)) ∙ l.invariant.4,
    )

pub shape_of-out : goal.shape_of-out
shape_of-out c = c.loop-k.invariant.1

pub returns : goal.returns
returns c =
    let l = c.loop-k in
    let all = left_all c.args.list.now c.term_count-n.result c.term_count-n.ensures in
    let none = left_none c.args.list.now l.k c.term_count-n.result (omega arith) in
    record {
      room = c.requires.fact_2;
      next_is = omega (arith, l.invariant.3, ap length none, ap length all);
      bytes_are = sym (placed-none l.next l.out) ∙ ap (λ s. placed l.next s l.out) (sym none) ∙ l.invariant.4 ∙ ap (λ s. placed c.args.at s c.args.out.now) all;
    }
